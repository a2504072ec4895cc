-- What a flow holds, item by item.
use Rattle.std.proofs.Common.{◌≡◌, ℕ, zero, suc, ◌+◌, ◌<◌, ◌≤◌, false, List, [], ◌∷◌, ◌++◌, map, length, IfOk, None, Ok, Err, vec_items, Result, sym, refl, ap, ◌∙◌, subst, ⊎_elim, arith, length-append}
use mathlib.Core.List.Memᴰ
use mathlib.Core.List.{Memᴰ}
use lib.ListN.{length-map}
use Rattle.std.specs.List.{flat_map}
use Rattle.std.proofs.lemmas.List.{map-append, flat_map_more}
use Rattle.algebra.specs.declared.literal.Literal.TheVariants.{Happened, Never}
use Rattle.algebra.specs.declared.expr.Atom.TheVariants.{Lit, Yes, No}
use Rattle.algebra.specs.declared.expr.Head.{Head}
use Rattle.algebra.specs.declared.expr.Expr.{Expr}
use Rattle.algebra.specs.declared.expr.Expr.TheVariants.{Leaf, Binary'}
use Rattle.algebra.specs.Expressions as algebra
use Rattle.algebra.specs.Rules.{Counts, NumberedOn}
use Rattle.algebra.proofs.Counts.{numbered_push}
use Rattle.sheet.specs.declared.grade.Event.{Event}
use Rattle.text.specs.Words.{Token, closes}
use Rattle.forms.specs.declared.line.Declaration.{Declaration}
use Rattle.forms.specs.declared.line.Passage.{Passage}
use Rattle.forms.specs.declared.line.Entry.{Entry}
use Rattle.forms.specs.declared.line.Entry.TheVariants as entry
use Rattle.forms.specs.Forms.{Form, plain, never, group, Chain, last, more, words, Fine}
use Rattle.forms.specs.Items.{Declared, Item, event, rule}
use Rattle.forms.specs.Reads.{Left}
use Rattle.forms.specs.Entries.{Says}
use Rattle.accept.specs.declared.names.EventNames.{EventNames}
use Rattle.flow.specs.declared.built.Built.{Built}
use Rattle.flow.specs.declared.flow.Flow.{Flow}
use Rattle.accept.specs.Drafts.{leaves, leaves_of, Names, Draft, names, leaf_count, Apart, Keeps}
use Rattle.accept.specs.Tallies.{known}
use Rattle.flow.specs.Of.{names_of, rules_of}
use Rattle.accept.specs.Drafts.{Found}
use Rattle.accept.specs.Steps.{Knows, grown}
use Rattle.flow.specs.Compiles.{Means, MeansAll, Each, Called, Compiled}
use Rattle.flow.specs.Builds.{Entered, FormAt, FormBuilt}
use Rattle.flow.specs.Gains.{EventGained, RuleGained, Gaining}
use Rattle.accept.proofs.Growing.{found_none}

-- another way to say which event has which name
module _ (R Q : ℕ → List ℕ → Type 0) (to : (e : ℕ) (n : List ℕ) → R e n → Q e n) where
  mutual
    means_weaker : (f : Form) (x : Expr) → Means R f x → Means Q f x
    means_weaker (plain n) (Leaf (Lit (Happened e)) k) m = to e n m
    means_weaker (plain n) (Leaf (Lit (Never e)) k) m = m
    means_weaker (plain n) (Leaf Yes k) m = m
    means_weaker (plain n) (Leaf No k) m = m
    means_weaker (plain n) (Binary' g p x q y) m = m
    means_weaker (never n) (Leaf (Lit (Happened e)) k) m = m
    means_weaker (never n) (Leaf (Lit (Never e)) k) m = to e n m
    means_weaker (never n) (Leaf Yes k) m = m
    means_weaker (never n) (Leaf No k) m = m
    means_weaker (never n) (Binary' g p x q y) m = m
    means_weaker (group h f c) (Leaf a k) m = m
    means_weaker (group h f c) (Binary' g p x q y) (head, m, n) = (head, means_weaker f x m, all_weaker h c y n)

    all_weaker : (h : Head) (c : Chain) (x : Expr) → MeansAll R h c x → MeansAll Q h c x
    all_weaker h (last f) x m = means_weaker f x m
    all_weaker h (more f c) (Leaf a k) m = m
    all_weaker h (more f c) (Binary' g p x q y) (head, m, n) = (head, means_weaker f x m, all_weaker h c y n)

  each_weaker : (fs : List Form) (xs : List Expr) → Each R fs xs → Each Q fs xs
  each_weaker [] [] m = m
  each_weaker [] (x ∷ xs) m = m
  each_weaker (f ∷ fs) [] m = m
  each_weaker (f ∷ fs) (x ∷ xs) (m, ms) = (means_weaker f x m, each_weaker fs xs ms)

module _ (R : ℕ → List ℕ → Type 0) where
  -- as many leaves as are written
  mutual
    means_leaves : (f : Form) (x : Expr) → Means R f x → length (algebra.leaves x) ≡ length (leaves f)
    means_leaves (plain n) (Leaf (Lit (Happened e)) k) m = refl
    means_leaves (plain n) (Leaf (Lit (Never e)) k) m = refl
    means_leaves (plain n) (Leaf Yes k) m = refl
    means_leaves (plain n) (Leaf No k) m = refl
    means_leaves (plain n) (Binary' g p x q y) m = absurd m
    means_leaves (never n) (Leaf (Lit (Happened e)) k) m = refl
    means_leaves (never n) (Leaf (Lit (Never e)) k) m = refl
    means_leaves (never n) (Leaf Yes k) m = refl
    means_leaves (never n) (Leaf No k) m = refl
    means_leaves (never n) (Binary' g p x q y) m = absurd m
    means_leaves (group h f c) (Leaf a k) m = absurd m
    means_leaves (group h f c) (Binary' g p x q y) (head, m, n) =
        let a = means_leaves f x m in
        let b = all_leaves h c y n in
        length-append (algebra.leaves x) (algebra.leaves y) ∙ ap (λ i. i + length (algebra.leaves y)) a ∙ ap (λ i. length (leaves f) + i) b ∙ sym (length-append (leaves f) (leaves_of c))

    all_leaves : (h : Head) (c : Chain) (x : Expr) → MeansAll R h c x → length (algebra.leaves x) ≡ length (leaves_of c)
    all_leaves h (last f) x m = means_leaves f x m
    all_leaves h (more f c) (Leaf a k) m = absurd m
    all_leaves h (more f c) (Binary' g p x q y) (head, m, n) =
        let a = means_leaves f x m in
        let b = all_leaves h c y n in
        length-append (algebra.leaves x) (algebra.leaves y) ∙ ap (λ i. i + length (algebra.leaves y)) a ∙ ap (λ i. length (leaves f) + i) b ∙ sym (length-append (leaves f) (leaves_of c))

  each_leaves : (fs : List Form) (xs : List Expr) → Each R fs xs → length (flat_map algebra.leaves xs) ≡ length (flat_map leaves fs)
  each_leaves [] [] m = refl
  each_leaves [] (x ∷ xs) m = absurd m
  each_leaves (f ∷ fs) [] m = absurd m
  each_leaves (f ∷ fs) (x ∷ xs) (m, ms) =
      length-append (algebra.leaves x) (flat_map algebra.leaves xs) ∙ ap (λ i. i + length (flat_map algebra.leaves xs)) (means_leaves f x m) ∙ ap (λ i. length (leaves f) + i) (each_leaves fs xs ms) ∙ sym (length-append (leaves f) (flat_map leaves fs))

  each_length : (fs : List Form) (xs : List Expr) → Each R fs xs → length xs ≡ length fs
  each_length [] [] m = refl
  each_length [] (x ∷ xs) m = absurd m
  each_length (f ∷ fs) [] m = absurd m
  each_length (f ∷ fs) (x ∷ xs) (m, ms) = ap suc (each_length fs xs ms)

  each_more : (fs : List Form) (xs : List Expr) (f : Form) (x : Expr) → Each R fs xs → Means R f x → Each R (fs ++ (f ∷ [])) (xs ++ (x ∷ []))
  each_more [] [] f x ms m = (m, tt)
  each_more [] (y ∷ xs) f x ms m = absurd ms
  each_more (g ∷ fs) [] f x ms m = absurd ms
  each_more (g ∷ fs) (y ∷ xs) f x (n, ms) m = (n, each_more fs xs f x ms m)

  -- the events of its literals have names
  module _ (k : ℕ) (low : (e : ℕ) (n : List ℕ) → R e n → e < k) where
    mutual
      means_events : (f : Form) (x : Expr) → Means R f x → (e : ℕ) → Memᴰ e (algebra.events_in x) → e < k
      means_events (plain n) (Leaf (Lit (Happened v)) i) m e at = low e n (subst (λ z. R z n) (sym (Memᴰ.eq_of_singleton at)) m)
      means_events (plain n) (Leaf (Lit (Never v)) i) m e at = absurd m
      means_events (plain n) (Leaf Yes i) m e at = absurd (Memᴰ.not-nil at)
      means_events (plain n) (Leaf No i) m e at = absurd (Memᴰ.not-nil at)
      means_events (plain n) (Binary' g p x q y) m e at = absurd m
      means_events (never n) (Leaf (Lit (Happened v)) i) m e at = absurd m
      means_events (never n) (Leaf (Lit (Never v)) i) m e at = low e n (subst (λ z. R z n) (sym (Memᴰ.eq_of_singleton at)) m)
      means_events (never n) (Leaf Yes i) m e at = absurd m
      means_events (never n) (Leaf No i) m e at = absurd m
      means_events (never n) (Binary' g p x q y) m e at = absurd m
      means_events (group h f c) (Leaf a i) m e at = absurd m
      means_events (group h f c) (Binary' g p x q y) (head, m, n) e at = ⊎_elim (means_events f x m e) (all_events h c y n e) (Memᴰ.append_cases (algebra.events_in x) at)

      all_events : (h : Head) (c : Chain) (x : Expr) → MeansAll R h c x → (e : ℕ) → Memᴰ e (algebra.events_in x) → e < k
      all_events h (last f) x m e at = means_events f x m e at
      all_events h (more f c) (Leaf a i) m e at = absurd m
      all_events h (more f c) (Binary' g p x q y) (head, m, n) e at = ⊎_elim (means_events f x m e) (all_events h c y n e) (Memᴰ.append_cases (algebra.events_in x) at)

nth_below : (ns : List (List ℕ)) (e : ℕ) (n : List ℕ) → Called ns e n → e < length ns
nth_below [] e n is = absurd (let z : ◌≡◌ {A = ℕ} 0 1 = cc in omega arith)
nth_below (m ∷ ns) zero n is = omega arith
nth_below (m ∷ ns) (suc e) n is = let q = nth_below ns e n is in omega arith

called_more : (ns : List (List ℕ)) (m : List ℕ) (e : ℕ) (n : List ℕ) → Called ns e n → Called (ns ++ (m ∷ [])) e n
called_more [] m e n is = absurd (let z : ◌≡◌ {A = ℕ} 0 1 = cc in omega arith)
called_more (k ∷ ns) m zero n is = is
called_more (k ∷ ns) m (suc e) n is = called_more ns m e n is

apart_last : (ns : List (List ℕ)) (n : List ℕ) → Apart (ns ++ (n ∷ [])) → Memᴰ n ns → ⊥
apart_last [] n a m = Memᴰ.not-nil m
apart_last (k ∷ ns) n (not, a) m =
    ⊎_elim (λ e. not (subst (λ z. Memᴰ z (ns ++ (n ∷ []))) e (Memᴰ.append_right ns (Memᴰ.head refl)))) (apart_last ns n a) (Memᴰ.cases_cons m)

entered_called : (s : EventNames) (ns : List (List ℕ)) → Knows s ns → (e : ℕ) (n : List ℕ) → Entered s e n → Called ns e n
entered_called s ns k e n is = subst (Found ns n) is (k.found n)

-- a member of a list stands in a longer one
last_member : {X : Type 0} (xs : List X) (x : X) → Memᴰ x (xs ++ (x ∷ []))
last_member xs x = Memᴰ.append_right xs (Memᴰ.head refl)

module _ (d : Draft) (f : Flow) (c : Compiled d f) where
  events_length : length (vec_items f.events) ≡ length d.declared
  events_length = sym (length-map (vec_items f.events) (λ e. vec_items e.name)) ∙ ap length c.names_are ∙ length-map d.declared (λ x. x.name)

  names_grown : (x : Declared) → names (grown d (event x)) ≡ names d ++ (x.name ∷ [])
  names_grown x = map-append (λ y. y.name) d.declared (x ∷ [])

  event_room : (x : Declared) (n : List ℕ) → n ≡ x.name → Keeps (grown d (event x)) → (length (vec_items f.events) < 12) × (Memᴰ n (names_of f) → ⊥)
  event_room x n is k = (
    (let a = events_length in let b = k.few_events in let e = length-append d.declared (x ∷ []) in omega arith),
    (λ m. apart_last (names d) x.name (subst Apart (names_grown x) k.apart) (subst (λ z. Memᴰ z (names d)) is (subst (Memᴰ n) c.names_are m))),
  )

  event_compiled : (x : Declared) (n : List ℕ) (e : Event) (h : Flow) → n ≡ x.name → e ≡ x.told → EventGained f n e h → Compiled (grown d (event x)) h
  event_compiled x n e h named told g =
      record {
        names_are = g.names_are ∙ ap (λ z. z ++ (n ∷ [])) c.names_are ∙ ap (λ z. names d ++ (z ∷ [])) named ∙ sym (names_grown x);
        events_are = g.events_are ∙ ap (λ z. z ++ (e ∷ [])) c.events_are ∙ ap (λ z. map (λ y. y.told) d.declared ++ (z ∷ [])) told ∙ sym (map-append (λ y. y.told) d.declared (x ∷ []));
        rules_are = subst (Each (Called (names (grown d (event x)))) d.rules) (sym g.rules_are)
            (each_weaker (Called (names d)) (Called (names (grown d (event x)))) (λ v m is. subst (λ z. Called z v m) (sym (names_grown x)) (called_more (names d) x.name v m is)) d.rules (rules_of f) c.rules_are);
      }

  module _ (s : EventNames) (r : Form) (k : Keeps (grown d (rule r))) (knows : Knows s (names d)) (first : ℕ) (is : first ≡ length (flat_map algebra.leaves (rules_of f))) where
    first_leaf : first ≡ leaf_count d
    first_leaf = is ∙ each_leaves (Called (names d)) d.rules (rules_of f) c.rules_are

    light : first + length (leaves r) ≤ 64
    light =
        let a = first_leaf in
        let b = k.few_leaves in
        let e : leaf_count (grown d (rule r)) ≡ leaf_count d + length (leaves r) = ap length (sym (flat_map_more leaves [] d.rules r)) ∙ length-append (flat_map leaves d.rules) (leaves r) in
        omega arith

    all_known : (n : List ℕ) → Names r n → known s n ≡ None → ⊥
    all_known n m none = found_none (names d) n (known s n) (knows.found n) none (k.known r (last_member d.rules r) n m)

    rule_ready : (bs : List ℕ) (at : ℕ) → Left bs at false (words r (closes ∷ [])) [] → FormAt s bs at 8 first false
    rule_ready bs at left =
        record { form = r; tokens = closes ∷ []; onward = []; fine = k.shaped r (last_member d.rules r); left = left; ready = (all_known, light) }

    module _ (bs : List ℕ) (at : ℕ) (left : Left bs at false (words r (closes ∷ [])) []) (b : Built) (built : (g : Form) (ts : List Token) (o : List ℕ) → Fine g 8 → Left bs at false (words g ts) o → FormBuilt s first bs g ts o (Ok b)) where
      here : FormBuilt s first bs r (closes ∷ []) [] (Ok b)
      here = built r (closes ∷ []) [] (k.shaped r (last_member d.rules r)) left

      rule_means : Means (Called (names d)) r b.expr
      rule_means = means_weaker (Entered s) (Called (names d)) (entered_called s (names d) knows) r b.expr here.1

      rule_room : (length (rules_of f) < 16) × NumberedOn (rules_of f ++ (b.expr ∷ [])) × ((e : ℕ) → Memᴰ e (algebra.events_in b.expr) → e < length (vec_items f.events))
      rule_room = (
        (let a = each_length (Called (names d)) d.rules (rules_of f) c.rules_are in let m = k.few_rules in let e = length-append d.rules (r ∷ []) in omega arith),
        numbered_push (rules_of f) b.expr f.rules.numbered (subst (λ z. Counts z (algebra.leaves b.expr)) is here.2.counts),
        means_events (Called (names d)) (length (vec_items f.events))
            (λ e n at. let q = nth_below (names d) e n at in let l = length-map d.declared (λ x. x.name) in let m = events_length in omega arith) r b.expr rule_means,
      )

      rule_compiled : (h : Flow) → RuleGained f b.expr h → Compiled (grown d (rule r)) h
      rule_compiled h g =
          record {
            names_are = g.names_are ∙ c.names_are;
            events_are = g.events_are ∙ c.events_are;
            rules_are = subst (Each (Called (names d)) (d.rules ++ (r ∷ []))) (sym g.rules_are) (each_more (Called (names d)) d.rules (rules_of f) r b.expr c.rules_are rule_means);
          }

-- the same of what a line says
module _ (d : Draft) (s : EventNames) (f : Flow) where
  pub may_declare : (i : Item) (z : Entry) (y : Declaration) → z ≡ entry.Event y → Gaining d i z s f → (length (vec_items f.events) < 12) × (Memᴰ y.name.bytes.now (names_of f) → ⊥)
  may_declare (event x) z y is g = event_room d f g.compiled x y.name.bytes.now (subst (λ w. Says w (event x)) is g.says).0 g.keeps
  may_declare (rule r) z y is g = absurd (subst (λ w. Says w (rule r)) is g.says)

  pub declared_now : (i : Item) (z : Entry) (y : Declaration) (h : Flow) → z ≡ entry.Event y → Gaining d i z s f → EventGained f y.name.bytes.now y.event h → Compiled (grown d i) h
  declared_now (event x) z y h is g e =
      let says = subst (λ w. Says w (event x)) is g.says in event_compiled d f g.compiled x y.name.bytes.now y.event h says.0 says.1 e
  declared_now (rule r) z y h is g e = absurd (subst (λ w. Says w (rule r)) is g.says)

  module _ (first : ℕ) (count : first ≡ length (flat_map algebra.leaves (rules_of f))) where
    pub may_compile : (i : Item) (z : Entry) (y : Passage) → z ≡ entry.Rule y → Gaining d i z s f → FormAt s y.line.text.now y.at 8 first false
    may_compile (event x) z y is g = absurd (subst (λ w. Says w (event x)) is g.says)
    may_compile (rule r) z y is g =
        rule_ready d f g.compiled s r g.keeps g.knows first count y.line.text.now y.at (subst (λ w. Says w (rule r)) is g.says)

    module _ (y : Passage) (b : Built) (built : (g : Form) (ts : List Token) (o : List ℕ) → Fine g 8 → Left y.line.text.now y.at false (words g ts) o → FormBuilt s first y.line.text.now g ts o (Ok b)) where
      pub may_state : (i : Item) (z : Entry) → z ≡ entry.Rule y → Gaining d i z s f → (length (rules_of f) < 16) × NumberedOn (rules_of f ++ (b.expr ∷ [])) × ((e : ℕ) → Memᴰ e (algebra.events_in b.expr) → e < length (vec_items f.events))
      may_state (event x) z is g = absurd (subst (λ w. Says w (event x)) is g.says)
      may_state (rule r) z is g = rule_room d f g.compiled s r g.keeps g.knows first count y.line.text.now y.at (subst (λ w. Says w (rule r)) is g.says) b built

      pub stated_now : (i : Item) (z : Entry) (h : Flow) → z ≡ entry.Rule y → Gaining d i z s f → RuleGained f b.expr h → Compiled (grown d i) h
      stated_now (event x) z h is g e = absurd (subst (λ w. Says w (event x)) is g.says)
      stated_now (rule r) z h is g e =
          rule_compiled d f g.compiled s r g.keeps g.knows first count y.line.text.now y.at (subst (λ w. Says w (rule r)) is g.says) b built h e

pub made_to : {E : Type 0} (r : Result (Unit {0}) E) {P Q : Type 0} → IfOk r (λ _. P) → (P → Q) → IfOk r (λ _. Q)
made_to (Ok done) p to = to p
made_to (Err e) p to = tt
