-- Lines cut out of a file.
use Rattle.std.proofs.Common.{◌≡◌, ◌==◌, ℕ, ◌+◌, ◌-◌, ◌<◌, ◌≤◌, Bool, true, false, MatchBool, Option, None, Some, MatchOption, List, [], length, get_or, take, drop, sym, ap, ◌∙◌, subst, ⊎_elim, arith, length-drop, take-append-drop}
use Rattle.std.proofs.lemmas.List.{drop_more, drop_all, drop-append-le, take_all, get_or-take, get_or-drop, length-take-le}
use Rattle.std.proofs.lemmas.Bool.{cases_lt}
use Rattle.text.specs.declared.kind.Kind.TheVariants.{Other}
use Rattle.text.specs.Kinds.{kind_of}
use Rattle.std.specs.Option.{option_map}
use Rattle.std.specs.List.{HoldsAt, AllWithin, position}
use mathlib.Core.Bool.{false≢true}
use Rattle.std.proofs.lemmas.Bool.{eqb-true, eq-eqb}
use Rattle.text.proofs.Searching.{here, none_before, first_found, rest_is}
use Rattle.text.specs.Lines.{NoFeed, EndsAt, FeedNext, FirstLine, ended, Strange}
use Rattle.text.specs.declared.line.Line.{Line}
use Rattle.text.specs.Files.{CutAt}

-- whether a search of a line's bytes found one that stands in no flow file
pub strange_or_not : (line : List ℕ) (r : Bool) → MatchBool r ((k : ℕ) × (k < length line) × HoldsAt (λ b. kind_of b ≡ Other) line k) (AllWithin (λ b. kind_of b ≡ Other → ⊥) line 0 (length line))
    → MatchBool r (Strange line) (Strange line → ⊥)
strange_or_not line true (k, low, is) = (k, low, is 0)
strange_or_not line false none = λ (k, low, is). none k 0 (omega arith) low is

module _ (bs : List ℕ) (a : ℕ) where
  -- the first line feed behind place a, by the place of the whole file
  pub feed_first : (r : Option ℕ) → r ≡ position (λ b. b == 10) (drop a bs) → EndsAt bs a (option_map (λ i. a + i) r)
  feed_first None e =
      let none = first_found bs a (λ b. b == 10) None e in
      λ k low high is. false≢true (sym (none_before bs a (λ b. (b == 10) ≡ false) _ none k low (let l = length-drop a bs in omega arith)) ∙ eq-eqb (get_or bs k 0) 10 is)
  feed_first (Some i) e =
      let (within, is, none) = first_found bs a (λ b. b == 10) (Some i) e in (
        omega arith,
        (let l = length-drop a bs in omega arith),
        eqb-true (get_or bs (a + i) 0) 10 (here bs a (λ b. (b == 10) ≡ true) i is),
        λ k low high feed. false≢true (sym (none_before bs a (λ b. (b == 10) ≡ false) i none k low high) ∙ eq-eqb (get_or bs k 0) 10 feed),
      )

  -- the same of the bytes from place a on, as they are cut out
  pub feed_at : (ys : List ℕ) (r q : Option ℕ) → ys ≡ take (length bs - a) (drop a bs) → r ≡ position (λ b. b == 10) ys → q ≡ option_map (λ i. a + i) r → EndsAt bs a q
  feed_at ys r q is first e = subst (EndsAt bs a) (sym e) (feed_first r (first ∙ ap (position (λ b. b == 10)) (rest_is bs a ys is)))

  -- a line that ends at place e of the file
  first_line : (e : ℕ) → a ≤ e → e ≤ length bs → NoFeed bs a e → FeedNext (drop e bs) → FirstLine (drop a bs) (drop a (take e bs)) (drop e bs)
  first_line e low high none feed =
      let long : length (take e bs) ≡ e = length-take-le e bs high in (
        ap (drop a) (sym (take-append-drop e bs)) ∙ drop-append-le a (take e bs) (drop e bs) (omega arith),
        (λ k h is.
            let l : length (drop a (take e bs)) ≡ length (take e bs) - a = length-drop a (take e bs) in
            let lt : a + k < e = omega arith in
            none (a + k) (omega arith) lt (sym (get_or-take e bs (a + k) 0 lt) ∙ sym (get_or-drop a (take e bs) k 0) ∙ is)),
        feed,
      )

  module _ (n : ℕ) (l : Line) (start : l.start ≡ a) (number : l.number ≡ n) where
    cut_at : (e : ℕ) → e ≤ length bs → l.text.now ≡ take e bs → FirstLine (drop a bs) (drop a (take e bs)) (drop e bs) → (length l.text.now ≡ e → l.ended ≡ ended (drop (length l.text.now) bs)) → CutAt bs a n l
    cut_at e high is first feed =
        let long : length l.text.now ≡ e = ap length is ∙ length-take-le e bs high in
        record {
          start = start;
          number = number;
          text = is ∙ ap (λ k. take k bs) (sym long);
          first = subst (λ k. FirstLine (drop a bs) (drop k l.text.now) (drop (length l.text.now) bs)) (sym start) (subst (λ k. FirstLine (drop a bs) (drop a l.text.now) (drop k bs)) (sym long) (subst (λ t. FirstLine (drop a bs) (drop a t) (drop e bs)) (sym is) first));
          feed = feed long;
        }

    pub cut_some : (e : ℕ) → l.text.now ≡ take e bs → l.ended ≡ true → a ≤ e → e < length bs → get_or bs e 0 ≡ 10 → NoFeed bs a e → CutAt bs a n l
    cut_some e is was low high feed none =
        cut_at e (omega arith) is
        (first_line e low (omega arith) none (subst FeedNext (sym (drop_more bs e 0 high)) feed))
        (λ long. was ∙ ap ended (sym (ap (λ k. drop k bs) long ∙ drop_more bs e 0 high)))

    pub cut_none : l.text.now ≡ bs → l.ended ≡ false → (a < length bs → NoFeed bs a (length bs)) → CutAt bs a n l
    cut_none is was none =
        cut_at (length bs) (omega arith) (is ∙ sym (take_all (length bs) bs (omega arith)))
        (⊎_elim
        (λ lt. first_line (length bs) (omega arith) (omega arith) (none lt) (subst FeedNext (sym (drop_all (length bs) bs (omega arith))) tt))
        (λ ge.
        let gone : drop a (take (length bs) bs) ≡ [] = drop_all a (take (length bs) bs) (let q = length-take-le (length bs) bs (omega arith) in omega arith) in
        let done : drop (length bs) bs ≡ [] = drop_all (length bs) bs (omega arith) in
        subst (λ t. FirstLine (drop a bs) t (drop (length bs) bs)) (sym gone)
        (subst (λ t. FirstLine (drop a bs) [] t) (sym done) (drop_all a bs ge, (λ k h e. omega arith), tt)))
        (cases_lt a (length bs)))
        (λ long. was ∙ ap ended (sym (ap (λ k. drop k bs) long ∙ drop_all (length bs) bs (omega arith))))

  -- the line up to its line feed, if one ends it
  pub line_cut : (n : ℕ) (l : Line) → l.start ≡ a → l.number ≡ n → (r : Option ℕ) → EndsAt bs a r
      → MatchOption r ((l.text.now ≡ bs) × (l.ended ≡ false)) (λ e. (l.text.now ≡ take e bs) × (l.ended ≡ true)) → CutAt bs a n l
  line_cut n l start number None none (is, was) = cut_none n l start number is was (λ lt. none)
  line_cut n l start number (Some e) (low, high, feed, none) (is, was) = cut_some n l start number e is was low high feed none
