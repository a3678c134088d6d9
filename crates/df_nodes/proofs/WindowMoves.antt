-- A window that moves on over rows.
use Rattle.std.proofs.Common.{◌≡◌, ℕ, ◌+◌, ◌-◌, ◌^◌, ◌<◌, ◌≤◌, List, [], ◌∷◌, ◌++◌, length, take, drop, get_or, sym, ap, subst, ◌∙◌, arith, length-drop, length-take}
use Rattle.std.proofs.lemmas.List.{drop-append-le, drop-drop, drop_all, drop_more, get_or-map, length-map, take-append-drop, take-map, take-take, take_more}
use Rattle.df_value.specs.declared.cell.Cell.{Cell}
use Rattle.df_value.specs.declared.cell.Cell.TheVariants as cell
use Rattle.df_value.specs.Rows.{cell_at}
use Rattle.df_ops.specs.Aggregates.{cells_of}
use Rattle.df_ops.specs.Windows.{window_of}
use Rattle.df_nodes.specs.Sliding.{AreWords, IsLast, IsOver, IsReady, IsSmall, IsWord, joined_totals, stacked, totals_of, whole_totals}
use Rattle.df_nodes.specs.declared.rolling.Rolling.{Rolling}
use Rattle.df_nodes.specs.declared.sliding.SlidingWindow.{SlidingWindow}
use Rattle.df_nodes.specs.declared.window_totals.Totals.{Totals}
use Rattle.df_nodes.proofs.WindowTotals.{small_totals, stacked_last, stacked_length, stacked_less, totals_join, words_drop, words_push}

-- what lies between two indexes
pub between_length : (a b : ℕ) (xs : List Cell) → b ≤ length xs → length (drop a (take b xs)) ≡ b - a
between_length a b xs within =
    let cut = length-drop a (take b xs) in
    let front = length-take b xs in
    omega arith

-- from an index within on
pub between_rest : (a m b : ℕ) (xs : List Cell) → a ≤ m → drop m (take b xs) ≡ drop (m - a) (drop a (take b xs))
between_rest a m b xs le = ap (λ n. drop n (take b xs)) (let e : m ≡ a + (m - a) = omega arith in e) ∙ sym (drop-drop (m - a) a (take b xs))

-- two parts side by side
pub between_both : (a m b : ℕ) (xs : List Cell) → a ≤ m → m ≤ b → b ≤ length xs → drop a (take m xs) ++ drop m (take b xs) ≡ drop a (take b xs)
between_both a m b xs low high within =
    let front : take m xs ≡ take m (take b xs) = sym (take-take m b xs high) in
    let long = length-take m (take b xs) in
    let whole = length-take b xs in
    ap (λ l. drop a l ++ drop m (take b xs)) front
    ∙ sym (drop-append-le a (take m (take b xs)) (drop m (take b xs)) (omega arith))
    ∙ ap (drop a) (take-append-drop m (take b xs))

-- one more behind
pub between_more : (a b : ℕ) (xs : List Cell) (c : Cell) → a ≤ b → b < length xs → c ≡ get_or xs b c → drop a (take (b + 1) xs) ≡ drop a (take b xs) ++ c ∷ []
between_more a b xs c le lt is =
    let long = length-take b xs in
    ap (drop a) (take_more xs b c lt)
    ∙ drop-append-le a (take b xs) (get_or xs b c ∷ []) (omega arith)
    ∙ ap (λ d. drop a (take b xs) ++ d ∷ []) (sym is)

pub small_younger : (r : Rolling) (w : SlidingWindow) → IsReady r w → IsSmall w.totals
small_younger r w h =
    let long = h.younger in
    let few = h.few in
    subst IsSmall (sym h.totals) (small_totals r.kind w.younger.items (omega arith) h.words)

module _ (r : Rolling) (w : SlidingWindow) (rows : List (List Cell)) where
  abbrev column : List Cell
  column = cells_of r.index rows

  -- the totals of the younger cells can be taken
  pub ready : IsOver r w rows → length rows ≤ 2 ^ 60 → IsReady r w
  ready h few =
      let long = length-map rows (cell_at r.index) in
      let ordered = h.ordered in
      let last = h.younger_last in
      let within = h.within in
      let old = between_length w.start w.middle column (omega arith) in
      let stack = ap length h.older ∙ stacked_length r.kind (drop w.start (take w.middle column)) in
      record {
        ordered = ordered;
        younger_last = last;
        few = omega arith;
        older = omega arith;
        younger = ap length h.younger ∙ between_length w.middle w.stop column (omega arith);
        totals = h.totals ∙ ap (totals_of r.kind) (sym h.younger);
        words = subst AreWords (sym (between_rest w.start w.middle w.stop column ordered) ∙ sym h.younger) (words_drop (w.middle - w.start) (drop w.start (take w.stop column)) h.words);
      }

  -- the totals of the older cells
  pub older_totals : IsOver r w rows → (d : Totals) → get_or w.older.items (length w.older.items - 1) d ≡ totals_of r.kind (drop w.start (take w.middle column))
  older_totals h d = ap (λ l. get_or l (length l - 1) d) h.older ∙ stacked_last r.kind (drop w.start (take w.middle column)) d

  pub small_older : IsOver r w rows → length rows ≤ 2 ^ 60 → (d : Totals) → IsSmall (get_or w.older.items (length w.older.items - 1) d)
  small_older h few d =
      let long = length-map rows (cell_at r.index) in
      let ordered = h.ordered in
      let last = h.younger_last in
      let within = h.within in
      let old = between_length w.start w.middle column (omega arith) in
      subst IsSmall (sym (older_totals h d)) (small_totals r.kind (drop w.start (take w.middle column)) (omega arith) (older_words (between_both w.start w.middle w.stop column ordered last (omega arith)) h.words))
    where
      words_front : (xs ys : List Cell) → AreWords (xs ++ ys) → AreWords xs
      words_front [] ys h = tt
      words_front (x ∷ xs) ys h = (h.0, words_front xs ys h.1)

      older_words : drop w.start (take w.middle column) ++ drop w.middle (take w.stop column) ≡ drop w.start (take w.stop column) → AreWords (drop w.start (take w.stop column)) → AreWords (drop w.start (take w.middle column))
      older_words e h = words_front (drop w.start (take w.middle column)) (drop w.middle (take w.stop column)) (subst AreWords (sym e) h)

  -- the totals of all
  pub whole_window : IsLast r w rows → (d : Totals) → whole_totals r w d ≡ totals_of r.kind (window_of r.w (cells_of r.index (take w.stop rows)))
  whole_window h d =
      let o = h.over in
      let long = length-map rows (cell_at r.index) in
      let ordered = o.ordered in
      let last = o.younger_last in
      let within = o.within in
      let whole = h.whole in
      let front = length-take w.stop column in
      let all : length (take w.stop column) - r.w ≡ w.start = omega arith in
      ap (λ t. joined_totals r.kind t w.totals) (older_totals o d)
      ∙ ap (joined_totals r.kind (totals_of r.kind (drop w.start (take w.middle column)))) o.totals
      ∙ sym (totals_join r.kind (drop w.start (take w.middle column)) (drop w.middle (take w.stop column)))
      ∙ ap (totals_of r.kind) (between_both w.start w.middle w.stop column ordered last (omega arith) ∙ ap (λ n. drop n (take w.stop column)) (sym all) ∙ ap (window_of r.w) (take-map (cell_at r.index) w.stop rows))

same_between : (a b m n : ℕ) (xs : List Cell) → a ≡ m → b ≡ n → drop a (take b xs) ≡ drop m (take n xs)
same_between a b m n xs e f = ap (λ k. drop k (take b xs)) e ∙ ap (λ k. drop m (take k xs)) f

none_between : (a b : ℕ) (xs : List Cell) → b ≤ a → drop a (take b xs) ≡ []
none_between a b xs le = drop_all a (take b xs) (let long = length-take b xs in omega arith)

module _ (r : Rolling) (rows : List (List Cell)) where
  abbrev all : List Cell
  all = cells_of r.index rows

  -- a window of no row
  pub empty_window : (w : SlidingWindow) → w.middle ≡ w.start → w.stop ≡ w.start → w.start ≤ length rows → w.older.items ≡ totals_of r.kind [] ∷ [] → w.younger.items ≡ []
      → w.totals ≡ totals_of r.kind [] → IsOver r w rows
  empty_window w m s within older younger totals =
      let none = none_between w.middle w.stop all (omega arith) in
      record {
        ordered = omega arith;
        younger_last = omega arith;
        within = omega arith;
        older = older ∙ ap (stacked r.kind) (sym (none_between w.start w.middle all (omega arith)));
        younger = younger ∙ sym none;
        totals = totals ∙ ap (totals_of r.kind) (sym none);
        words = subst AreWords (sym (none_between w.start w.stop all (omega arith))) tt;
      }

  -- the younger cells become the older
  pub turned_window : (old new : SlidingWindow) → IsOver r old rows → old.middle ≤ old.start → new.start ≡ old.start → new.middle ≡ old.stop → new.stop ≡ old.stop
      → new.older.items ≡ stacked r.kind old.younger.items → new.younger.items ≡ [] → new.totals ≡ totals_of r.kind [] → IsOver r new rows
  turned_window old new h le a m b older younger totals =
      let ordered = h.ordered in
      let last = h.younger_last in
      let within = h.within in
      let none = none_between new.middle new.stop all (omega arith) in
      record {
        ordered = omega arith;
        younger_last = omega arith;
        within = omega arith;
        older = older ∙ ap (stacked r.kind) (h.younger ∙ same_between old.middle old.stop new.start new.middle all (omega arith) (sym m));
        younger = younger ∙ sym none;
        totals = totals ∙ ap (totals_of r.kind) (sym none);
        words = subst AreWords (same_between old.start old.stop new.start new.stop all (sym a) (sym b)) h.words;
      }

  -- the oldest cell goes
  pub passed_window : (old new : SlidingWindow) → IsOver r old rows → old.start < old.middle → new.start ≡ old.start + 1 → new.middle ≡ old.middle → new.stop ≡ old.stop
      → new.older.items ≡ take (length old.older.items - 1) old.older.items → new.younger.items ≡ old.younger.items → new.totals ≡ old.totals → IsOver r new rows
  passed_window old new h some a m b older younger totals =
      let long = length-map rows (cell_at r.index) in
      let ordered = h.ordered in
      let last = h.younger_last in
      let within = h.within in
      let front = length-take old.middle all in
      let whole = length-take old.stop all in
      let c = get_or (take old.middle all) old.start cell.Null in
      let first : drop old.start (take old.middle all) ≡ c ∷ drop (old.start + 1) (take old.middle all) = drop_more (take old.middle all) old.start cell.Null (omega arith) in
      let stack : old.older.items ≡ stacked r.kind (c ∷ drop (old.start + 1) (take old.middle all)) = h.older ∙ ap (stacked r.kind) first in
      let same = same_between old.middle old.stop new.middle new.stop all (sym m) (sym b) in
      record {
        ordered = omega arith;
        younger_last = omega arith;
        within = omega arith;
        older = older
            ∙ ap (λ l. take (length l - 1) l) stack
            ∙ stacked_less r.kind c (drop (old.start + 1) (take old.middle all))
            ∙ ap (stacked r.kind) (same_between (old.start + 1) old.middle new.start new.middle all (sym a) (sym m));
        younger = younger ∙ h.younger ∙ same;
        totals = totals ∙ h.totals ∙ ap (totals_of r.kind) same;
        words = subst AreWords (drop-drop 1 old.start (take old.stop all) ∙ same_between (old.start + 1) old.stop new.start new.stop all (sym a) (sym b))
            (words_drop 1 (drop old.start (take old.stop all)) h.words);
      }

  -- a cell comes behind the others
  pub pushed_window : (old new : SlidingWindow) (c : Cell) (row : List Cell) → IsOver r old rows → old.stop < length rows → row ≡ get_or rows old.stop [] → c ≡ cell_at r.index row → IsWord c
      → new.start ≡ old.start → new.middle ≡ old.middle → new.stop ≡ old.stop + 1 → new.older.items ≡ old.older.items → new.younger.items ≡ old.younger.items ++ c ∷ []
      → new.totals ≡ joined_totals r.kind old.totals (totals_of r.kind (c ∷ [])) → IsOver r new rows
  pushed_window old new c row h lt at is word a m b older younger totals =
      let long = length-map rows (cell_at r.index) in
      let ordered = h.ordered in
      let last = h.younger_last in
      let within = h.within in
      let here : c ≡ get_or all old.stop c = is ∙ ap (cell_at r.index) at ∙ sym (get_or-map (cell_at r.index) rows old.stop [] c lt) in
      let more : (k : ℕ) → k ≤ old.stop → drop k (take (old.stop + 1) all) ≡ drop k (take old.stop all) ++ c ∷ [] = λ k le. between_more k old.stop all c le (omega arith) here in
      let same : old.younger.items ++ c ∷ [] ≡ drop new.middle (take new.stop all) =
      ap (λ l. l ++ c ∷ []) h.younger ∙ sym (more old.middle last) ∙ same_between old.middle (old.stop + 1) new.middle new.stop all (sym m) (sym b) in
      record {
        ordered = omega arith;
        younger_last = omega arith;
        within = omega arith;
        older = older ∙ h.older ∙ ap (stacked r.kind) (same_between old.start old.middle new.start new.middle all (sym a) (sym m));
        younger = younger ∙ same;
        totals = totals
            ∙ ap (λ t. joined_totals r.kind t (totals_of r.kind (c ∷ []))) (h.totals ∙ ap (totals_of r.kind) (sym h.younger))
            ∙ sym (totals_join r.kind old.younger.items (c ∷ []))
            ∙ ap (totals_of r.kind) same;
        words = subst AreWords (sym (more old.start (omega arith)) ∙ same_between old.start (old.stop + 1) new.start new.stop all (sym a) (sym b))
            (words_push (drop old.start (take old.stop all)) c h.words word);
      }
