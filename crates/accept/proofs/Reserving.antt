-- Words among some words.
use Rattle.std.proofs.Common.{◌≡◌, ℕ, Bool, true, false, List, [], ◌∷◌, map, ◌||◌, MatchBool, sym, refl, ◌∙◌, ⊎_elim, Bor}
use mathlib.Core.Bool.{false≢true}
use mathlib.Core.List.Memᴰ
use mathlib.Core.List.{Memᴰ}
use Rattle.std.specs.List.{list_any}
use Rattle.std.specs.Str.{bytes_eq}
use Rattle.std.proofs.lemmas.Slice.Eq.{bytes_eq-Decides}

module _ (n : List ℕ) (w : Bor (List ℕ)) (ws : List (Bor (List ℕ))) where
  abbrev In : List (Bor (List ℕ)) → Type 0
  In vs = Memᴰ n (map (λ x. x.now) vs)

  first : (b : Bool) → bytes_eq w.now n ≡ b → (r : Bool) → MatchBool r (In ws) (In ws → ⊥) → MatchBool (b || r) (In (w ∷ ws)) (In (w ∷ ws) → ⊥)
  first true e r m = Memᴰ.head (sym ((bytes_eq-Decides w.now n).0 e))
  first false e true m = Memᴰ.tail m
  first false e false none = λ m. ⊎_elim (λ q. false≢true (sym e ∙ (bytes_eq-Decides w.now n).1 (sym q))) none (Memᴰ.cases_cons m)

-- whether a text is among some words, as a search for one tells it
pub among : (n : List ℕ) (ws : List (Bor (List ℕ))) → MatchBool (list_any (λ w. bytes_eq w.now n) ws) (Memᴰ n (map (λ w. w.now) ws)) (Memᴰ n (map (λ w. w.now) ws) → ⊥)
among n [] = λ m. Memᴰ.not-nil m
among n (w ∷ ws) = first n w ws (bytes_eq w.now n) refl (list_any (λ x. bytes_eq x.now n) ws) (among n ws)
