-- The n-th piece of k records.
use Rattle.std.proofs.Common.{◌≡◌, ◌+◌, ◌-◌, ◌*◌, ◌<◌, ◌≤◌, ℕ, List, length, take, drop, min, sym, ap, arith, ◌∙◌}
use Rattle.std.specs.Int.{div_ceil}
use Rattle.std.proofs.lemmas.Grind.{div_ceil_times}
use Rattle.std.proofs.lemmas.List.{length-drop, take_min}
use Rattle.std.proofs.Math.Nat.{mul-le-mul_left}
use Rattle.df_csv.specs.PieceStarts.{pieces_length}
use Rattle.df_csv.specs.Sources.{CsvParts, chunks_of}
use Rattle.df_csv.specs.Typed.{piece_count}

-- a piece begins before the end of the records
pub starts_within : (n k all : ℕ) → 0 < k → n < div_ceil all k → n * k < all
starts_within n k all some h =
    let (low, high) = div_ceil_times all k some in
    let more : k * (n + 1) ≤ k * div_ceil all k = mul-le-mul_left k (omega arith) in
    grind arith

-- the last piece has the records that are left
pub take_left : (k first : ℕ) (records : List (List (List ℕ))) → take (min k (length records - first)) (drop first records) ≡ take k (drop first records)
take_left k first records = ap (λ n. take (min k n) (drop first records)) (sym (length-drop first records)) ∙ take_min k (drop first records)

-- a source has as many chunks as its records make pieces
pub count_of_source : (parts source : CsvParts) → parts ≡ source → length (chunks_of source) ≡ piece_count parts.size (length parts.records)
count_of_source parts source is = ap (λ (s : CsvParts). length (chunks_of s)) (sym is) ∙ pieces_length parts.schema parts.size parts.records
