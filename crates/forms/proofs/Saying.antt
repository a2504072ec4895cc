-- What a line says, from its first words on.
use Rattle.std.proofs.Common.{◌≡◌, ℕ, Bool, true, false, List, [], ◌∷◌, drop, Option, Some, None, MatchOption, codes, sym, refl, ◌∙◌, subst}
use mathlib.Core.Bool.{false≢true}
use Rattle.std.specs.Bool.{then_some}
use Rattle.text.specs.declared.line.Line.{Line}
use Rattle.text.specs.Files.{bytes_of}
use Rattle.text.specs.Words.{Token, opens, closes, named, Stands, Written}
use Rattle.text.proofs.Spelling.{written_spells, spells_written}
use Rattle.forms.specs.declared.line.Declaration.{Declaration}
use Rattle.forms.specs.declared.line.Passage.{Passage}
use Rattle.forms.specs.declared.line.Section.{Section}
use Rattle.forms.specs.declared.line.Section.TheVariants.{Start, Events, Rules}
use Rattle.forms.specs.declared.line.Entry.{Entry}
use Rattle.forms.specs.declared.line.Entry.TheVariants as entry
use Rattle.forms.specs.Forms.{words}
use Rattle.forms.specs.Items.{Item, event, rule, item_words, FineItem, render, Comes}
use Rattle.forms.specs.Reads.{Left, NameIs}
use Rattle.forms.specs.Entries.{Says}
use Rattle.forms.specs.Tails.{declaring, EventAt, RuleAt, ItemOf, takes, LineSays}
use Rattle.forms.proofs.Steps.{left_to, left_from}
use Rattle.text.proofs.Tokens.{named_same}
use Rattle.forms.proofs.Wording.{words_apart, item_tokens, one_item}

module _ (l : Line) where
  abbrev bs : List ℕ
  bs = l.text.now

  -- a line that says an item begins with an opening bracket
  pub no_bracket : ((o : List ℕ) → Stands true (bytes_of l) opens o → ⊥) → ItemOf l None
  no_bracket none (event x) fine w = none w.0 w.1
  no_bracket none (rule f) fine w = none w.0 w.1

  module _ (e : ℕ) (first : Stands true (bytes_of l) opens (drop e bs)) where
    -- the words behind the opening bracket
    behind : (ts : List Token) → Written true (bytes_of l) (opens ∷ ts) [] → Left bs e true ts []
    behind ts w = (left_from bs l.start true [] e opens opens ts first w).1

    pub no_head : NameIs true bs e None → ItemOf l None
    no_head none (event x) fine w = let p = behind (named (codes "event") ∷ declaring x.name x.told) w in none (codes "event") p.0 p.1
    no_head none (rule f) fine w = let p = behind (named (codes "rule") ∷ words f (closes ∷ [])) w in none (codes "rule") p.0 p.1

    module _ (n : List ℕ) (e2 : ℕ) (head : Stands true (drop e bs) (named n) (drop e2 bs)) where
      after : (m : List ℕ) (ts : List Token) → Written true (bytes_of l) (opens ∷ (named m ∷ ts)) [] → (n ≡ m) × Left bs e2 false ts []
      after m ts w = let p = left_from bs e true [] e2 (named n) (named m) ts head (behind (named m ∷ ts) w) in (sym (named_same p.0), p.1)

      from : (m : List ℕ) (ts : List Token) → n ≡ m → Left bs e2 false ts [] → Written true (bytes_of l) (opens ∷ (named m ∷ ts)) []
      from m ts is w = left_to bs l.start true [] e opens (named m ∷ ts) first (left_to bs e true [] e2 (named m) ts (subst (λ k. Stands true (drop e bs) (named k) (drop e2 bs)) is head) w)

      pub other_head : (n ≡ codes "event" → ⊥) → (n ≡ codes "rule" → ⊥) → ItemOf l None
      other_head p q (event x) fine w = p (after (codes "event") (declaring x.name x.told) w).0
      other_head p q (rule f) fine w = q (after (codes "rule") (words f (closes ∷ [])) w).0

      module _ (is : n ≡ codes "event") where
        pub no_event : EventAt bs e2 None → ItemOf l None
        no_event none (event x) fine w = none x.name x.told (after (codes "event") (declaring x.name x.told) w).1
        no_event none (rule f) fine w = words_apart (sym is ∙ (after (codes "rule") (words f (closes ∷ [])) w).0)

        pub an_event : (x : Declaration) → EventAt bs e2 (Some x) → ItemOf l (Some (entry.Event x))
        an_event x w =
            (event (record { name = x.name.bytes.now; told = x.event }), x.name.run, from (codes "event") (declaring x.name.bytes.now x.event) is w, (refl, refl), tt)

      module _ (is : n ≡ codes "rule") where
        pub a_rule : (x : Passage) → RuleAt l e2 (Some x) → ItemOf l (Some (entry.Rule x))
        a_rule x (line, at, (f, fine, w)) = (
          rule f,
          fine,
          from (codes "rule") (words f (closes ∷ [])) is w,
          subst (λ k. Left k.text.now x.at false (words f (closes ∷ [])) []) (sym line) (subst (λ k. Left bs k false (words f (closes ∷ [])) []) (sym at) w),
          line,
        )

  -- an entry may come exactly if the item may that it says
  comes : (s : Section) (x : Entry) (i : Item) → Says x i → takes s x ≡ true → Comes s i
  comes Start (entry.Event x) (event d) says is = tt
  comes Start (entry.Event x) (rule f) says is = absurd says
  comes Start (entry.Rule x) (event d) says is = absurd says
  comes Start (entry.Rule x) (rule f) says is = false≢true is
  comes Events (entry.Event x) i says is = tt
  comes Events (entry.Rule x) i says is = tt
  comes Rules (entry.Event x) (event d) says is = false≢true is
  comes Rules (entry.Event x) (rule f) says is = absurd says
  comes Rules (entry.Rule x) (event d) says is = absurd says
  comes Rules (entry.Rule x) (rule f) says is = tt

  comes_not : (s : Section) (x : Entry) (i : Item) → Says x i → takes s x ≡ false → Comes s i → ⊥
  comes_not Start (entry.Event x) i says is c = false≢true (sym is)
  comes_not Start (entry.Rule x) (event d) says is c = says
  comes_not Start (entry.Rule x) (rule f) says is c = c
  comes_not Events (entry.Event x) i says is c = false≢true (sym is)
  comes_not Events (entry.Rule x) i says is c = false≢true (sym is)
  comes_not Rules (entry.Event x) (event d) says is c = c
  comes_not Rules (entry.Event x) (rule f) says is c = says
  comes_not Rules (entry.Rule x) i says is c = false≢true (sym is)

  written : (i : Item) → FineItem i → bytes_of l ≡ render i → Written true (bytes_of l) (item_words i) []
  written i fine is = subst (λ z. Written true z (item_words i) []) (sym is) (spells_written true (item_words i) (item_tokens i fine))

  pub says_none : (s : Section) → ItemOf l None → LineSays s l None
  says_none s none i (fine, c, same, ended) = none i fine (written i fine same)

  module _ (s : Section) (ended : l.ended ≡ true) where
    -- what was found is kept if it may come next, as b says
    kept : (x : Entry) → ItemOf l (Some x) → (b : Bool) → b ≡ takes s x → LineSays s l (then_some b x)
    kept x (i, fine, w, says, of) true is =
        ((i, (fine, comes s x i says (sym is), written_spells true (bytes_of l) (item_words i) w, ended), says), of)
    kept x (i, fine, w, says, of) false is = λ j (fj, c, same, _).
        let e : i ≡ j = one_item i j fine fj (sym (written_spells true (bytes_of l) (item_words i) w) ∙ same) in
        comes_not s x i says (sym is) (subst (Comes s) (sym e) c)

    pub says_found : (R : Entry → Bool → Type 0) (r q : Option Entry) → ItemOf l r
        → MatchOption r (q ≡ None) (λ x. (b : Bool) × R x b × (q ≡ then_some b x))
        → ((x : Entry) (b : Bool) → R x b → b ≡ takes s x) → LineSays s l q
    says_found R None q none is may = subst (LineSays s l) (sym is) (says_none s none)
    says_found R (Some x) q found (b, ran, is) may = subst (LineSays s l) (sym is) (kept x found b (may x b ran))
