-- Words taken one by one.
use Rattle.std.proofs.Common.{◌≡◌, ℕ, ◌+◌, ◌<◌, List, [], ◌∷◌, ◌++◌, map, length, get_or, take, replicate, Some, Ok, Result, string_bytes, fold, String, sym, ap, ◌∙◌, subst, append_assoc, append-nil, refl, arith, length-set}
use Rattle.std.specs.declared.alloc.Global.{Global}
use Rattle.std.proofs.lemmas.List.{length-map, take_more, get_or-map}
use Rattle.std.proofs.lemmas.List.Sums.{fold-append}
use Rattle.algebra.specs.declared.literal.Literal.{Literal}
use Rattle.algebra.specs.declared.literal.Literal.TheVariants.{Happened, Never}
use Rattle.algebra.specs.declared.expr.Expr.{Expr}
use Rattle.algebra.specs.Literals.{event_of}
use Rattle.algebra.specs.Left.{fresh_all, applied_all}
use Rattle.algebra.specs.Of.{literals_of}
use Rattle.sheet.specs.declared.status.Status.{Status}
use Rattle.sheet.specs.declared.status.Status.TheVariants.{Open}
use Rattle.sheet.specs.Of.{bits_of}
use Rattle.sheet.specs.Statuses.{packed, statuses}
use Rattle.sheet.proofs.Words.{packing}
use Rattle.report.specs.declared.walk.TakeError.{TakeError}
use Rattle.report.specs.declared.walk.Walk.{Walk}
use Rattle.report.specs.Lines.{settles, settled, statuses_after, marks_after, Wording, left_lines}
use Rattle.report.specs.Texts.{text_of, Says}
use Rattle.report.specs.Walks.{Grown, Took, Spelt}

length_settled : (ss : List Status) (w : List Literal) → length (fold settled ss w) ≡ length ss
length_settled ss [] = refl
length_settled ss (l ∷ w) = length_settled (settled ss l) w ∙ length-set ss (event_of l) (settles l)

-- the statuses after literals, out of their word
pub statuses_after_lem : (w : List Literal) → statuses (packed (statuses_after w)) ≡ statuses_after w
statuses_after_lem w = (packing.1 (statuses_after w) (length_settled (replicate 12 Open) w)).1

-- the text of a literal that a word says is the word
said : (names : List (List ℕ)) (d : List ℕ) (l : Literal) → Says names d (Some l) → text_of names l ≡ d
said names d (Happened e) (named, is) = is
said names d (Never e) ((named, is), none) = is

lines_push : (line : List ℕ → ℕ → _ → List ℕ) (names : List (List ℕ)) (xs : List Expr) (u v : List Literal) (l : Literal) → left_lines line names xs u (v ++ (l ∷ [])) ≡ left_lines line names xs u v ++ line (text_of names l) (packed (statuses_after (u ++ (v ++ (l ∷ []))))) (marks_after xs (u ++ (v ++ (l ∷ []))))
lines_push line names xs u [] l = append-nil _
lines_push line names xs u (k ∷ v) l =
    let first = line (text_of names k) (packed (statuses_after (u ++ (k ∷ [])))) (marks_after xs (u ++ (k ∷ []))) in
    ap (λ z. first ++ z) (lines_push line names xs (u ++ (k ∷ [])) v l)
    ∙ sym (append_assoc first (left_lines line names xs (u ++ (k ∷ [])) v) _)
    ∙ ap (λ w. (first ++ left_lines line names xs (u ++ (k ∷ [])) v) ++ line (text_of names l) (packed (statuses_after w)) (marks_after xs w)) (append_assoc u (k ∷ []) (v ++ (l ∷ [])))

spelt_push : (names : List (List ℕ)) (w : List Literal) (ds : List (List ℕ)) (l : Literal) (d : List ℕ) → Spelt names w ds → Says names d (Some l) → Spelt names (w ++ (l ∷ [])) (ds ++ (d ∷ []))
spelt_push names [] [] l d h says = (says, tt)
spelt_push names [] (e ∷ ds) l d h says = absurd h
spelt_push names (k ∷ w) [] l d h says = absurd h
spelt_push names (k ∷ w) (e ∷ ds) l d (first, rest) says = (first, spelt_push names w ds l d rest says)

-- the words ds were taken: s has their literals, the position after them, and their lines
pub record Walked (W : Wording) (names : List (List ℕ)) (xs : List Expr) (ds : List (List ℕ)) (s : Walk) : Type 0 where
  pub spelt : Spelt names (literals_of s.trace) ds
  pub word : bits_of s.word ≡ packed (statuses_after (literals_of s.trace))
  pub marks : s.marks ≡ marks_after xs (literals_of s.trace)
  pub text : string_bytes s.text ≡ left_lines W.line names xs [] (literals_of s.trace)

module _ (W : Wording) (names : List (List ℕ)) (xs : List Expr) (ds : List (List ℕ)) (s : Walk) (d : List ℕ) (l : Literal) (t : Walk) where
  walked_more : Walked W names xs ds s → Says names d (Some l) → Grown W xs s d l t → Walked W names xs (ds ++ (d ∷ [])) t
  walked_more old says g =
      let w = literals_of s.trace in
      let more = sym g.trace in
      let word : bits_of t.word ≡ packed (statuses_after (w ++ (l ∷ []))) =
      g.word ∙ ap (λ n. packed (settled (statuses n) l)) old.word ∙ ap (λ ss. packed (settled ss l)) (statuses_after_lem w)
      ∙ ap packed (sym (fold-append settled (replicate 12 Open) w (l ∷ []))) in
      let marks : t.marks ≡ marks_after xs (w ++ (l ∷ [])) =
      g.marks ∙ ap (λ m. applied_all xs m l) old.marks ∙ sym (fold-append (applied_all xs) (fresh_all xs) w (l ∷ [])) in
      record {
        spelt = subst (λ v. Spelt names v (ds ++ (d ∷ []))) more (spelt_push names w ds l d old.spelt says);
        word = word ∙ ap (λ v. packed (statuses_after v)) more;
        marks = marks ∙ ap (marks_after xs) more;
        text =
            g.text ∙ ap (λ z. z ++ W.line d (bits_of t.word) t.marks) old.text
            ∙ ap (λ z. left_lines W.line names xs [] w ++ W.line z (bits_of t.word) t.marks) (sym (said names d l says))
            ∙ ap (λ z. left_lines W.line names xs [] w ++ W.line (text_of names l) z t.marks) word
            ∙ ap (λ z. left_lines W.line names xs [] w ++ W.line (text_of names l) (packed (statuses_after (w ++ (l ∷ [])))) z) marks
            ∙ sym (lines_push W.line names xs [] w l)
            ∙ ap (left_lines W.line names xs []) more;
      }

-- the walk at word k of the words, which is x, with the text d
module _ (W : Wording) (names : List (List ℕ)) (xs : List Expr) (words : List (String Global)) (k : ℕ) (x : String Global) (d : List ℕ) (s t : Walk) (h : k < length words) (at : x ≡ get_or words k x) (reads : d ≡ string_bytes x) (old : Walked W names xs (take k (map string_bytes words)) s) (r : Result (Unit {0}) TakeError) (took : Took W names xs s d t r) where
  abbrev ds : List (List ℕ)
  ds = map string_bytes words

  within : k < length ds
  within = let l = length-map words string_bytes in omega arith

  here : d ≡ get_or ds k []
  here = reads ∙ ap string_bytes at ∙ sym (get_or-map string_bytes words k x [] h)

  pub walked_next : (u : Unit {0}) → r ≡ Ok u → Walked W names xs (take (k + 1) ds) t
  walked_next u e =
      let (l, says, grown) = subst (Took W names xs s d t) e took in
      subst (λ z. Walked W names xs z t) (ap (λ z. take k ds ++ (z ∷ [])) here ∙ sym (take_more ds k [] within)) (walked_more W names xs (take k ds) s d l t old says grown)
