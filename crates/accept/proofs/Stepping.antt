-- One line more of a flow file.
use Rattle.std.proofs.Common.{◌≡◌, ℕ, ◌+◌, ◌-◌, ◌<◌, ◌≤◌, true, ◌⊎◌, List, [], ◌∷◌, ◌++◌, length, get_or, drop, IsErrAnd, Some, None, Ok, Err, Result, MatchResult, sym, refl, ap, ◌∙◌, subst, inl, inr, ⊎_elim, append_assoc, arith, length-append, length-drop}
use mathlib.Core.Bool.{false≢true}
use lib.ListN.{length-map}
use Rattle.std.proofs.lemmas.List.{drop_more}
use Rattle.text.specs.declared.line.Line.{Line}
use Rattle.text.specs.Files.{bytes_of, CutAt}
use Rattle.text.specs.Lines.{FeedNext, ended, Strange}
use Rattle.forms.specs.declared.line.Entry.{Entry}
use Rattle.forms.specs.declared.line.Entry.TheVariants as entry
use Rattle.forms.specs.declared.line.Read.{Read}
use Rattle.forms.specs.declared.line.FormFault.{FormFault}
use Rattle.forms.specs.declared.line.FormFault.TheVariants as form
use Rattle.forms.specs.Forms.{Form}
use Rattle.forms.specs.Items.{Declared, Item, event, rule, render, Shaped}
use Rattle.forms.specs.Entries.{Says, EntryAt}
use Rattle.forms.proofs.Wording.{one_item}
use Rattle.accept.specs.declared.names.EventNames.{EventNames}
use Rattle.accept.specs.declared.counts.Progress.{Progress}
use Rattle.refusals.specs.declared.refusal.Fault.{Fault}
use Rattle.refusals.specs.declared.refusal.Fault.TheVariants.{Byte, Shape, Name, Twice, Undeclared, TooMany}
use Rattle.refusals.specs.declared.refusal.Refusal.{Refusal}
use Rattle.refusals.specs.declared.refusal.Refusal.TheVariants as refusal
use Rattle.accept.specs.declared.counts.Step.{Step}
use Rattle.refusals.specs.Refusals.{fault_number, refusal_of}
use Rattle.accept.specs.Drafts.{IsName, leaves, Names, Draft, names, leaf_count, rendered, section, Declares}
use Rattle.accept.specs.Outcomes.{Holds, Faulty, FirstFault}
use Rattle.accept.specs.Tallies.{known, Judged}
use Rattle.accept.specs.Naming.{Declaring}
use Rattle.accept.specs.Steps.{Knows, Reached, grown, AfterEvent, AfterRule, Taking, GoesOn, Stepped}
use Rattle.accept.proofs.Growing.{names_event, section_event_is, rendered_event, keeps_event, section_rule_is, leaves_rule, rendered_rule, keeps_rule, knows_more, knows_room, found_none, found_some}

ended_some : (t : List ℕ) → ended t ≡ true → 0 < length t
ended_some [] e = absurd (false≢true e)
ended_some (b ∷ t) e = omega arith

not_none : {e : ℕ} → Some e ≡ None → ⊥
not_none q = let z : ◌≡◌ {A = ℕ} 0 1 = cc in omega arith

ok_same : {x y : Progress} → ◌≡◌ {A = Result Progress Refusal} (Ok x) (Ok y) → x ≡ y
ok_same e = cc

err_same : {x y : Refusal} → ◌≡◌ {A = Result Progress Refusal} (Err x) (Err y) → x ≡ y
err_same e = cc

event_same : {x y : Declared} → event x ≡ event y → x ≡ y
event_same e = cc

rule_same : {f g : Form} → rule f ≡ rule g → f ≡ g
rule_same e = cc

rule_event : {x : Declared} {f : Form} → rule f ≡ event x → ⊥
rule_event e = let z : ◌≡◌ {A = ℕ} 0 1 = cc in omega arith

-- no fault below a number
module _ (d : Draft) (line tail : List ℕ) where
  abbrev pub Not : Fault → Fault → Type 0
  Not k j = fault_number j < fault_number k → Faulty d line tail j → ⊥

  below : (k : Fault) → Not k Byte → Not k Shape → Not k Name → Not k Twice → Not k Undeclared → Not k TooMany → (j : Fault) → Not k j
  below k b s n t u m Byte = b
  below k b s n t u m Shape = s
  below k b s n t u m Name = n
  below k b s n t u m Twice = t
  below k b s n t u m Undeclared = u
  below k b s n t u m TooMany = m

module _ (bs : List ℕ) (d : Draft) (p : Progress) (s : EventNames) (h : Reached bs d p s) (on : GoesOn bs p) (l : Line) (cut : CutAt bs p.at p.line l) where
  abbrev tail : List ℕ
  tail = drop (length l.text.now) bs

  abbrev line : List ℕ
  line = bytes_of l

  there : (0 < length (drop p.at bs)) ⊎ (bs ≡ [])
  there = ⊎_elim (λ q. inl (let n = length-drop p.at bs in omega arith)) (λ q. inr q) on

  first : (k : Fault) → Faulty d line tail k → ((j : Fault) → Not d line tail k j) → FirstFault bs p.line k
  first k faulty lowest =
      record {
        before = d;
        keeps = h.keeps;
        rest = drop p.at bs;
        follows = h.text;
        there = there;
        line = line;
        tail = tail;
        cut = cut.first;
        number = h.line;
        faulty = faulty;
        lowest = lowest;
      }

  pub byte_first : Strange line → FirstFault bs p.line Byte
  byte_first strange =
      first Byte strange
      (below d line tail Byte (λ q. absurd (omega arith)) (λ q. absurd (omega arith)) (λ q. absurd (omega arith)) (λ q. absurd (omega arith)) (λ q. absurd (omega arith)) (λ q. absurd (omega arith)))

  module _ (clean : Strange line → ⊥) where
    -- what the form reader says of the line, in terms of the draft
    says : (i : Item) → Shaped p.section line l.ended i → Shaped (section d) line (ended tail) i
    says i shaped = subst (λ z. Shaped z line (ended tail) i) h.section_is (subst (λ b. Shaped p.section line b i) cut.feed shaped)

    says_back : (i : Item) → Shaped (section d) line (ended tail) i → Shaped p.section line l.ended i
    says_back i shaped = subst (λ z. Shaped z line l.ended i) (sym h.section_is) (subst (λ b. Shaped (section d) line b i) (sym cut.feed) shaped)

    pub shape_first : ((i : Item) → Shaped p.section line l.ended i → ⊥) → FirstFault bs p.line Shape
    shape_first none =
        first Shape (λ i shaped. none i (says_back i shaped))
        (below d line tail Shape (λ q. clean) (λ q. absurd (omega arith)) (λ q. absurd (omega arith)) (λ q. absurd (omega arith)) (λ q. absurd (omega arith)) (λ q. absurd (omega arith)))

    module _ (i : Item) (given : Shaped p.section line l.ended i) where
      here : Shaped (section d) line (ended tail) i
      here = says i given

      same : (j : Item) → Shaped (section d) line (ended tail) j → j ≡ i
      same j shaped = one_item j i shaped.0 here.0 (sym shaped.2 ∙ here.2)

      not_shape : Faulty d line tail Shape → ⊥
      not_shape none = none i here

      not_name : ((n : List ℕ) → Holds i n → IsName n) → Faulty d line tail Name → ⊥
      not_name good (j, shaped, (n, holds, bad)) = bad (good n (subst (λ z. Holds z n) (same j shaped) holds))

      -- where the line ends, and what follows
      pub next_at : (length l.text.now < length bs) × (p.at ≤ length l.text.now)
      next_at =
          let e = length l.text.now in
          let some : 0 < length tail = ended_some tail here.3 in
          let n1 : length (drop p.at bs) ≡ length bs - p.at = length-drop p.at bs in
          let n2 : length (drop p.at bs) ≡ length line + length tail = ap length cut.first.0 ∙ length-append line tail in
          let n3 : length line ≡ length l.text.now - l.start = length-drop l.start l.text.now in
          let n4 : length tail ≡ length bs - length l.text.now = length-drop (length l.text.now) bs in
          let n5 = cut.start in
          let n6 = h.within in
          (omega arith, omega arith)

      pub grown_text : (g : Draft) → rendered g ≡ rendered d ++ (render i ++ (10 ∷ [])) → bs ≡ rendered g ++ drop (length l.text.now + 1) bs
      grown_text g is =
          let e = length l.text.now in
          let q = drop_more bs (length l.text.now) 0 next_at.0 in
          let feed : get_or bs (length l.text.now) 0 ≡ 10 = subst FeedNext q cut.first.2 in
          h.text
          ∙ ap (λ z. rendered d ++ z) (cut.first.0 ∙ ap (λ z. z ++ tail) here.2 ∙ ap (λ z. render i ++ z) (q ∙ ap (λ b. b ∷ drop (length l.text.now + 1) bs) feed))
          ∙ sym (append_assoc (rendered d) (render i ++ (10 ∷ [])) (drop (length l.text.now + 1) bs) ∙ ap (λ z. rendered d ++ z) (append_assoc (render i) (10 ∷ []) (drop (length l.text.now + 1) bs)))
          ∙ ap (λ z. z ++ drop (length l.text.now + 1) bs) (sym is)

    -- a line that declares an event
    module _ (x : Declared) (given : Shaped p.section line l.ended (event x)) (t : EventNames) where
      at_event : Shaped (section d) line (ended tail) (event x)
      at_event = here (event x) given

      name_here : IsName x.name → Faulty d line tail Name → ⊥
      name_here good = not_name (event x) given (λ n e. subst IsName e good)

      pub event_first : (k : Fault) → Declaring s x.name p.events t (Err k) → FirstFault bs p.line k
      event_first Byte told = absurd told
      event_first Shape told = absurd told
      event_first Name bad =
          first Name (event x, at_event, (x.name, refl, bad))
          (below d line tail Name (λ q. clean) (λ q. not_shape (event x) given) (λ q. absurd (omega arith)) (λ q. absurd (omega arith)) (λ q. absurd (omega arith)) (λ q. absurd (omega arith)))
      event_first Twice (good, (e, is)) =
          first Twice (x, at_event, found_some (names d) x.name (known s x.name) (h.names_are.found x.name) (λ q. not_none (sym is ∙ q)))
          (below d line tail Twice (λ q. clean) (λ q. not_shape (event x) given) (λ q. name_here good) (λ q. absurd (omega arith)) (λ q. absurd (omega arith)) (λ q. absurd (omega arith)))
      event_first Undeclared told = absurd told
      event_first TooMany (good, none, full) =
          first TooMany
          (event x, at_event, (let a = h.names_are.many in let c = length-map d.declared (λ y. y.name) in omega arith))
          (below d line tail TooMany (λ q. clean) (λ q. not_shape (event x) given) (λ q. name_here good)
          (λ q (y, shaped, old). found_none (names d) x.name (known s x.name) (h.names_are.found x.name) none (subst (λ z. Declares d z.name) (event_same (same (event x) given (event y) shaped)) old))
          (λ q (f, shaped, rest). rule_event (same (event x) given (rule f) shaped))
          (λ q. absurd (omega arith)))

      pub event_reached : (q : Progress) → AfterEvent p (length l.text.now + 1) q → Declaring s x.name p.events t (Ok tt) → Reached bs (grown d (event x)) q t
      event_reached q after (good, none, many, all) =
          let new : Declares d x.name → ⊥ = found_none (names d) x.name (known s x.name) (h.names_are.found x.name) none in
          let counted : p.events ≡ length (names d) = h.events ∙ sym (length-map d.declared (λ y. y.name)) in
          let room : length (names d) < 12 = knows_room s t (names d) x.name p.events counted h.names_are many in
          let longer = length-append d.declared (x ∷ []) in
          record {
            keeps = keeps_event d h.keeps x at_event.1 good new (let c = length-map d.declared (λ y. y.name) in omega arith);
            text = grown_text (event x) given (grown d (event x)) (rendered_event d h.keeps x at_event.1) ∙ ap (λ n. rendered (grown d (event x)) ++ drop n bs) (sym after.at);
            within = let k = next_at (event x) given in let e = after.at in omega arith;
            line = let k = h.line in let e = after.line in omega arith;
            section_is = after.section_is ∙ section_event_is d h.keeps x at_event.1;
            events = let k = h.events in let e = after.events in omega arith;
            rules = after.rules ∙ h.rules;
            leaves = after.leaves ∙ h.leaves;
            names_are = subst (Knows t) (sym (names_event d h.keeps x at_event.1)) (knows_more s t (names d) x.name p.events counted h.names_are many all);
          }

    -- a line that states a rule
    module _ (f : Form) (given : Shaped p.section line l.ended (rule f)) where
      at_rule : Shaped (section d) line (ended tail) (rule f)
      at_rule = here (rule f) given

      all_declared : ((n : List ℕ) → Names f n → known s n ≡ None → ⊥) → (n : List ℕ) → Names f n → Declares d n
      all_declared all n m = found_some (names d) n (known s n) (h.names_are.found n) (all n m)

      pub rule_first : (k : Fault) → Judged s f p.rules p.leaves (Err k) → FirstFault bs p.line k
      rule_first Byte told = absurd told
      rule_first Shape told = absurd told
      rule_first Name (n, m, bad) =
          first Name (rule f, at_rule, (n, m, bad))
          (below d line tail Name (λ q. clean) (λ q. not_shape (rule f) given) (λ q. absurd (omega arith)) (λ q. absurd (omega arith)) (λ q. absurd (omega arith)) (λ q. absurd (omega arith)))
      rule_first Twice told = absurd told
      rule_first Undeclared (well, (n, m, none)) =
          first Undeclared (f, at_rule, (n, m, found_none (names d) n (known s n) (h.names_are.found n) none))
          (below d line tail Undeclared (λ q. clean) (λ q. not_shape (rule f) given) (λ q. not_name (rule f) given well)
          (λ q (y, shaped, old). rule_event (sym (same (rule f) given (event y) shaped)))
          (λ q. absurd (omega arith)) (λ q. absurd (omega arith)))
      rule_first TooMany (well, all, much) =
          first TooMany
          (rule f, at_rule, ⊎_elim (λ q. inl (subst (λ n. 16 ≤ n) h.rules q)) (λ q. inr (subst (λ n. 64 < n + length (leaves f)) h.leaves q)) much)
          (below d line tail TooMany (λ q. clean) (λ q. not_shape (rule f) given) (λ q. not_name (rule f) given well)
          (λ q (y, shaped, old). rule_event (sym (same (rule f) given (event y) shaped)))
          (λ q (g, shaped, (n, m, none)). none (all_declared all n (subst (λ z. Names z n) (rule_same (same (rule f) given (rule g) shaped)) m)))
          (λ q. absurd (omega arith)))

      pub rule_reached : (q : Progress) → AfterRule p (length l.text.now + 1) q.leaves q → Judged s f p.rules p.leaves (Ok q.leaves) → Reached bs (grown d (rule f)) q s
      rule_reached q after (well, all, few, light, is) =
          let longer = length-append d.rules (f ∷ []) in
          let sum : q.leaves ≡ leaf_count d + length (leaves f) = is ∙ ap (λ n. n + length (leaves f)) h.leaves in
          record {
            keeps = keeps_rule d h.keeps f at_rule.1 at_rule.0 (all_declared all) (let k = h.rules in omega arith) (subst (λ n. n ≤ 64) sum light);
            text = grown_text (rule f) given (grown d (rule f)) (rendered_rule d h.keeps f at_rule.1) ∙ ap (λ n. rendered (grown d (rule f)) ++ drop n bs) (sym after.at);
            within = let k = next_at (rule f) given in let e = after.at in omega arith;
            line = let k = h.line in let e = after.line in omega arith;
            section_is = after.section_is ∙ section_rule_is d h.keeps f at_rule.1;
            events = after.events ∙ h.events;
            rules = let k = h.rules in let e = after.rules in omega arith;
            leaves = sum ∙ sym (leaves_rule d h.keeps f at_rule.1);
            names_are = h.names_are;
          }

module _ (bs : List ℕ) (d : Draft) (p : Progress) (s : EventNames) (h : Reached bs d p s) (on : GoesOn bs p) where
  -- a fault that the form reader found
  form_fault : (f : FormFault) → EntryAt bs p.at p.line p.section (Err f) → Stepped bs d p.at s (Err (refusal_of f))
  form_fault (form.Bytes b) (n, (l, cut, strange)) = subst (λ k. FirstFault bs k Byte) (sym n) (byte_first bs d p s h on l cut strange)
  form_fault (form.Shape k) (n, (l, cut, clean, none)) = subst (λ k. FirstFault bs k Shape) (sym n) (shape_first bs d p s h on l cut clean none)

  pub handed_on : (r : Result Step Refusal) (f : FormFault) → IsErrAnd r (λ y. y ≡ refusal_of f) → EntryAt bs p.at p.line p.section (Err f) → Stepped bs d p.at s r
  handed_on (Ok x) f e told = absurd e
  handed_on (Err y) f e told = subst (λ z. Stepped bs d p.at s (Err z)) (sym e) (form_fault f told)

  module _ (l : Line) (cut : CutAt bs p.at p.line l) (clean : Strange (bytes_of l) → ⊥) (t : EventNames) where
    taken_fault : (z : Entry) (i : Item) (n : ℕ) (k : Fault) → Shaped p.section (bytes_of l) l.ended i → Says z i → Taking s p z t n (Err k) → FirstFault bs p.line k
    taken_fault (entry.Event y) (event x) n k given (name, told) took =
        event_first bs d p s h on l cut clean x given t k (subst (λ m. Declaring s m p.events t (Err k)) name took)
    taken_fault (entry.Event y) (rule f) n k given says took = absurd says
    taken_fault (entry.Rule y) (event x) n k given says took = absurd says
    taken_fault (entry.Rule y) (rule f) n k given says (same, took) = rule_first bs d p s h on l cut clean f given k (took f says)

    taken_item : (z : Entry) (i : Item) (n : ℕ) (q : Progress) → Shaped p.section (bytes_of l) l.ended i → Says z i → n ≡ length l.text.now + 1 → Taking s p z t n (Ok q) → (p.at < q.at) × Reached bs (grown d i) q t
    taken_item (entry.Event y) (event x) n q given (name, told) next (took, after) =
        let here = next_at bs d p s h on l cut clean (event x) given in
        let at = after.at in (
          omega arith,
          event_reached bs d p s h on l cut clean x given t q (subst (λ m. AfterEvent p m q) next after) (subst (λ m. Declaring s m p.events t (Ok tt)) name took),
        )
    taken_item (entry.Event y) (rule f) n q given says next took = absurd says
    taken_item (entry.Rule y) (event x) n q given says next took = absurd says
    taken_item (entry.Rule y) (rule f) n q given says next (same, after, took) =
        let here = next_at bs d p s h on l cut clean (rule f) given in
        let at = after.at in (
          omega arith,
          subst (Reached bs (grown d (rule f)) q) (sym same) (rule_reached bs d p s h on l cut clean f given q (subst (λ m. AfterRule p m q.leaves q) next after) (took f says)),
        )

  pub stepped_fault : (x : Read) (t : EventNames) (k : Fault) → EntryAt bs p.at p.line p.section (Ok x) → Taking s p x.entry t x.next (Err k) → FirstFault bs p.line k
  stepped_fault x t k (l, cut, of, clean, (i, given, says), next) took = taken_fault l cut clean t x.entry i x.next k given says took

  pub stepped_on : (x : Read) (t : EventNames) (q : Progress) → EntryAt bs p.at p.line p.section (Ok x) → Taking s p x.entry t x.next (Ok q) → Stepped bs d p.at t (Ok (record { entry = x.entry; progress = q }))
  stepped_on x t q (l, cut, of, clean, (i, given, says), next) took =
      let (forth, reached) = taken_item l cut clean t x.entry i x.next q given says next took in
      (forth, (i, says, reached))

  -- a fault that comes of taking the entry, told as a refusal
  module _ (E : Fault → Refusal → Type 0) (told : (k : Fault) (z : Refusal) → E k z → z ≡ refusal.Line p.line k) (x : Read) (t : EventNames) (entry : EntryAt bs p.at p.line p.section (Ok x)) where
    pub stepped_off : (r : Result Progress Fault) (m : Result Progress Refusal) (y : Refusal) (o : Result Step Refusal) → Taking s p x.entry t x.next r → MatchResult r (λ q. m ≡ Ok q) (λ k. IsErrAnd m (E k)) → m ≡ Err y → IsErrAnd o (λ z. z ≡ y) → Stepped bs d p.at t o
    stepped_off (Ok q) m y o took cases is e = absurd (let z : ◌≡◌ {A = ℕ} 0 1 = cc in omega arith)
    stepped_off (Err k) (Ok q) y o took cases is e = absurd cases
    stepped_off (Err k) (Err z) y (Ok q) took cases is e = absurd e
    stepped_off (Err k) (Err z) y (Err w) took cases is e =
        let q : z ≡ y = err_same is in
        let r = told k z cases in
        let here : refusal.Line p.line k ≡ w = cc in
        subst (λ v. Stepped bs d p.at t (Err v)) here (stepped_fault x t k entry took)

    pub stepped_more : (r : Result Progress Fault) (m : Result Progress Refusal) (q : Progress) → Taking s p x.entry t x.next r → MatchResult r (λ q. m ≡ Ok q) (λ k. IsErrAnd m (E k)) → m ≡ Ok q → Stepped bs d p.at t (Ok (record { entry = x.entry; progress = q }))
    stepped_more (Ok z) m q took cases is = stepped_on x t q entry (subst (λ v. Taking s p x.entry t x.next (Ok v)) (ok_same (sym cases ∙ is)) took)
    stepped_more (Err k) (Ok z) q took cases is = absurd cases
    stepped_more (Err k) (Err z) q took cases is = absurd (let y : ◌≡◌ {A = ℕ} 0 1 = cc in omega arith)
