-- A page: a document of HTML with the views as sections.
use Rattle.std.specs.Prelude.{◌++◌, ℕ, Bool, List, [], ◌∷◌, flat_map, codes, decimal, if◌then◌else◌}
use Rattle.df_page.specs.declared.style.TheConstants.{STYLE}
use Rattle.df_page.specs.Markup.{Tagged, markup}

-- a browser loads the page again every two seconds, if it is to
abbrev pub reload_tags : Bool → List Tagged
reload_tags reload = if reload then (codes "meta http-equiv=\"refresh\" content=\"2\"", codes "\n") ∷ [] else []

abbrev pub first_tags : List Tagged
first_tags =
    (codes "!doctype html", codes "\n") ∷ (codes "html lang=\"en\"", codes "\n") ∷ (codes "head", codes "\n")
    ∷ (codes "meta charset=\"utf-8\"", codes "\n")
    ∷ (codes "meta name=\"viewport\" content=\"width=device-width, initial-scale=1\"", codes "\n") ∷ []

-- the number of the last change
abbrev pub change_tags : ℕ → List Tagged
change_tags change = (codes "p", codes "change " ++ decimal change) ∷ (codes "/p", codes "\n") ∷ []

abbrev pub title_tags : List ℕ → ℕ → List Tagged
title_tags title change =
    (codes "title", title) ∷ (codes "/title", codes "\n") ∷ (codes "style", STYLE.now) ∷ (codes "/style", codes "\n")
    ∷ (codes "/head", codes "\n") ∷ (codes "body", codes "\n") ∷ (codes "header", codes "\n")
    ∷ (codes "h1", title) ∷ (codes "/h1", codes "\n")
    ∷ (change_tags change ++ ((codes "/header", codes "\n") ∷ (codes "main", codes "\n") ∷ []))

-- what stands before the first section
abbrev pub head_tags : List ℕ → ℕ → Bool → List Tagged
head_tags title change reload = first_tags ++ (reload_tags reload ++ title_tags title change)

unfoldable pub head_of : List ℕ → ℕ → Bool → List ℕ
head_of title change reload = markup (head_tags title change reload)

-- what stands behind the last one
abbrev pub end_tags : List Tagged
end_tags = (codes "/main", codes "\n") ∷ (codes "/body", codes "\n") ∷ (codes "/html", codes "\n") ∷ []

unfoldable pub end_of : List ℕ
end_of = markup end_tags

-- a page of sections in order
abbrev pub page_of : List ℕ → ℕ → Bool → List (List ℕ) → List ℕ
page_of title change reload sections = head_of title change reload ++ (flat_map (λ section. section) sections ++ end_of)
