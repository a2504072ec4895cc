-- A line of a file, by its number, is the part of that number between line feeds.
use Rattle.std.proofs.Common.{◌≡◌, ℕ, zero, suc, List, [], ◌∷◌, get_or, refl, ap}
use Rattle.std.specs.Prelude.{Bool, true, false, cond, ◌==◌}
use Rattle.std.specs.List.{slice_split, onto_first}
use Rattle.outcomes.specs.Files.{line_text}

first : (b : ℕ) (l : List ℕ) (parts : List (List ℕ)) (t : Bool) → l ≡ get_or parts 0 [] → cond t [] (b ∷ l) ≡ get_or (cond t ([] ∷ parts) (onto_first b parts)) 0 []
first b l parts true e = refl
first b l [] false e = ap (λ r. b ∷ r) e
first b l (part ∷ parts) false e = ap (λ r. b ∷ r) e

later : (b n : ℕ) (l m : List ℕ) (parts : List (List ℕ)) (t : Bool) → l ≡ get_or parts n [] → m ≡ get_or parts (suc n) [] → cond t l m ≡ get_or (cond t ([] ∷ parts) (onto_first b parts)) (suc n) []
later b n l m parts true e f = e
later b n l m [] false e f = f
later b n l m (part ∷ parts) false e f = f

pub line_text-part : (n : ℕ) (bs : List ℕ) → line_text n bs ≡ get_or (slice_split (λ b. b == 10) bs) n []
line_text-part zero [] = refl
line_text-part (suc n) [] = refl
line_text-part zero (b ∷ bs) = first b _ (slice_split (λ c. c == 10) bs) (b == 10) (line_text-part zero bs)
line_text-part (suc n) (b ∷ bs) =
    later b n _ _ (slice_split (λ c. c == 10) bs) (b == 10) (line_text-part n bs) (line_text-part (suc n) bs)
