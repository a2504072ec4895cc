-- A word's own bytes stand at its place.
use Rattle.std.proofs.Common.{◌≡◌, ℕ, ◌+◌, Bool, Some, List, ◌++◌, length, drop, sym, refl, ap, ◌∙◌}
use Rattle.std.proofs.lemmas.List.{drop-drop, drop_at}
use Rattle.text.specs.declared.word.Next.{Next}
use Rattle.text.specs.Words.{token_of, spelt, gap}
use Rattle.text.specs.Runs.{NextAt}
use Rattle.text.specs.Places.{WordAt}

own_bytes : (bs : List ℕ) (a e : ℕ) (g s : List ℕ) → drop a bs ≡ g ++ (s ++ drop e bs) → drop (a + length g) bs ≡ s ++ drop e bs
own_bytes bs a e g s is =
    sym (drop-drop (length g) a bs) ∙ ap (drop (length g)) is ∙ drop_at g (s ++ drop e bs) (length g) refl

pub word_here : (tight : Bool) (bs : List ℕ) (a n : ℕ) (x : Next) → NextAt tight bs a (Some x) → (g : ℕ) → g ≡ length (gap tight (token_of x.word))
    → WordAt tight bs a n (record { word = x.word; place = a + g; end = x.end; line = n })
word_here tight bs a n x found g is =
    let place = ap (λ n. a + n) is in
    record {
      stands = found.2;
      forth = found.0;
      within = found.1;
      place = place;
      own = ap (λ n. drop n bs) place ∙ own_bytes bs a x.end (gap tight (token_of x.word)) (spelt (token_of x.word)) found.2.1;
      line = refl;
    }
