-- A file has one outcome at most.
use Rattle.std.proofs.Common.{◌≡◌, ℕ, zero, suc, ◌+◌, ◌<◌, Bool, true, false, cond, eqb, ◌⊎◌, List, [], ◌∷◌, ◌++◌, map, length, get_or, sym, refl, ap, ◌∙◌, subst, inl, inr, ⊎_elim, append_assoc, append-nil, arith}
use mathlib.Core.Path.{subst₃}
use mathlib.Core.Bool.{false≢true}
use mathlib.Core.List.Memᴰ
use mathlib.Core.List.{Memᴰ}
use Rattle.std.specs.List.{flat_map}
use Rattle.std.proofs.lemmas.List.{length-append, map-append, nil_from_length}
use Rattle.std.proofs.lemmas.Bool.{cases_order}
use Rattle.text.specs.declared.kind.Kind.TheVariants.{Other}
use Rattle.text.specs.Kinds.{kind_of}
use Rattle.text.specs.Names.{in_name, name_byte, Run}
use Rattle.text.specs.Words.{Token, opens, closes, named, negated, spelt, IsToken, gap, is_open, spells, Tokens}
use Rattle.text.proofs.Tokens.{cons_head, cons_tail, nil_not_cons}
use Rattle.text.specs.Lines.{OneLine, FeedNext, ended, Strange}
use Rattle.forms.specs.Forms.{Form}
use Rattle.forms.specs.Items.{Declared, Item, event, rule, item_words, FineItem, render, Comes}
use Rattle.forms.proofs.Wording.{item_tokens, one_item}
use Rattle.refusals.specs.declared.refusal.Fault.{Fault}
use Rattle.refusals.specs.declared.refusal.Fault.TheVariants.{Byte, Shape, Name, Twice, Undeclared, TooMany}
use Rattle.refusals.specs.declared.refusal.Refusal.TheVariants.{TooLong, Line}
use Rattle.refusals.specs.Refusals.{fault_number}
use Rattle.accept.specs.Drafts.{IsName, leaves, Draft, names, leaf_count, event_line, rule_line, rendered, section_of, Declares, Apart, Keeps}
use Rattle.accept.specs.Outcomes.{Holds, OneTooMany, LineSays, Faulty, FirstFault, accepted, refused, ComesTo, OneOutcome}

-- a byte that stands in a line that says something: no line feed, and of some kind
abbrev Fair : ℕ → Type 0
Fair b = (b ≡ 10 → ⊥) × (kind_of b ≡ Other → ⊥)

abbrev Fairs : List ℕ → Type 0
Fairs bs = (k : ℕ) → k < length bs → Fair (get_or bs k 0)

fairs_append : (xs ys : List ℕ) → Fairs xs → Fairs ys → Fairs (xs ++ ys)
fairs_append [] ys f g k h = g k h
fairs_append (x ∷ xs) ys f g zero h = f zero (omega arith)
fairs_append (x ∷ xs) ys f g (suc k) h = fairs_append xs ys (λ k h. f (suc k) (omega arith)) g k (omega arith)

fairs_cons : (b : ℕ) (bs : List ℕ) → Fair b → Fairs bs → Fairs (b ∷ bs)
fairs_cons b bs p f zero h = p
fairs_cons b bs p f (suc k) h = f k (omega arith)

fairs_nil : Fairs []
fairs_nil k h = absurd (omega arith)

fair_name : (b : ℕ) → name_byte b ≡ true → Fair b
fair_name b in-name = (λ e. false≢true (sym (ap name_byte e) ∙ in-name), λ e. false≢true (sym (ap in_name e) ∙ in-name))

fair_open : Fair 40
fair_open = ((λ e. omega arith), λ e. let z : ◌≡◌ {A = ℕ} 0 1 = cc in omega arith)

fair_close : Fair 41
fair_close = ((λ e. omega arith), λ e. let z : ◌≡◌ {A = ℕ} 0 1 = cc in omega arith)

fair_tilde : Fair 126
fair_tilde = ((λ e. omega arith), λ e. let z : ◌≡◌ {A = ℕ} 0 1 = cc in omega arith)

fair_space : Fair 32
fair_space = ((λ e. omega arith), λ e. let z : ◌≡◌ {A = ℕ} 0 1 = cc in omega arith)

fairs_run : (n : List ℕ) → Run n → Fairs n
fairs_run n (some, all) k h = fair_name (get_or n k 0) (all k h)

fairs_token : (t : Token) → IsToken t → Fairs (spelt t)
fairs_token opens i = fairs_cons 40 [] fair_open fairs_nil
fairs_token closes i = fairs_cons 41 [] fair_close fairs_nil
fairs_token (named n) i = fairs_run n i
fairs_token (negated n) i = fairs_cons 126 n fair_tilde (fairs_run n i)

fairs_gap : (tight : Bool) (t : Token) → Fairs (gap tight t)
fairs_gap true t = fairs_nil
fairs_gap false opens = fairs_cons 32 [] fair_space fairs_nil
fairs_gap false closes = fairs_nil
fairs_gap false (named n) = fairs_cons 32 [] fair_space fairs_nil
fairs_gap false (negated n) = fairs_cons 32 [] fair_space fairs_nil

fairs_spells : (tight : Bool) (ts : List Token) → Tokens ts → Fairs (spells tight ts)
fairs_spells tight [] all = fairs_nil
fairs_spells tight (t ∷ ts) (is, all) =
    fairs_append (gap tight t) (spelt t ++ spells (is_open t) ts) (fairs_gap tight t) (fairs_append (spelt t) (spells (is_open t) ts) (fairs_token t is) (fairs_spells (is_open t) ts all))

fairs_item : (i : Item) → FineItem i → Fairs (render i)
fairs_item i fine = fairs_spells true (item_words i) (item_tokens i fine)

one_line : (i : Item) → FineItem i → OneLine (render i)
one_line i fine k h = (fairs_item i fine k h).0

not_strange : (i : Item) → FineItem i → Strange (render i) → ⊥
not_strange i fine (k, h, e) = (fairs_item i fine k h).1 e

-- a first line is cut in one way
first_same : (l m s t : List ℕ) → OneLine l → OneLine m → FeedNext s → FeedNext t → l ++ s ≡ m ++ t → (l ≡ m) × (s ≡ t)
first_same [] [] s t f g a b e = (refl, e)
first_same [] (y ∷ m) s t f g a b e = absurd (g 0 (omega arith) (subst FeedNext e a))
first_same (x ∷ l) [] s t f g a b e = absurd (f 0 (omega arith) (subst FeedNext (sym e) b))
first_same (x ∷ l) (y ∷ m) s t f g a b e =
    let (p, q) = first_same l m s t (λ k h. f (suc k) (omega arith)) (λ k h. g (suc k) (omega arith)) a b (cons_tail e) in
    let r = cons_head e in
    ((cc), q)

-- a draft as the items of its lines
abbrev items : Draft → List Item
items d = map event d.declared ++ map rule d.rules

abbrev line_of : Item → List ℕ
line_of i = render i ++ (10 ∷ [])

joined_append : {X A : Type 0} (f : X → List A) (xs ys : List X) → flat_map f (xs ++ ys) ≡ flat_map f xs ++ flat_map f ys
joined_append f [] ys = refl
joined_append f (x ∷ xs) ys = ap (λ z. f x ++ z) (joined_append f xs ys) ∙ sym (append_assoc (f x) (flat_map f xs) (flat_map f ys))

joined_map : {X : Type 0} (f : X → Item) (xs : List X) → flat_map (λ x. line_of (f x)) xs ≡ flat_map line_of (map f xs)
joined_map f [] = refl
joined_map f (x ∷ xs) = ap (λ z. line_of (f x) ++ z) (joined_map f xs)

rendered_items : (d : Draft) → rendered d ≡ flat_map line_of (items d)
rendered_items d =
    ap (λ z. z ++ flat_map rule_line d.rules) (joined_map event d.declared) ∙ ap (λ z. flat_map line_of (map event d.declared) ++ z) (joined_map rule d.rules)
    ∙ sym (joined_append line_of (map event d.declared) (map rule d.rules))

abbrev Sound : List Item → Type 0
Sound is = (i : Item) → Memᴰ i is → FineItem i

items_sound : (d : Draft) → Keeps d → Sound (items d)
items_sound d keeps i m = ⊎_elim an_event a_rule (Memᴰ.append_cases (map event d.declared) m)
  where
    an_event : Memᴰ i (map event d.declared) → FineItem i
    an_event h = let (x, k, is) = Memᴰ.of_map event d.declared h in subst FineItem is (keeps.named x.name (Memᴰ.map (λ y. y.name) k)).run

    a_rule : Memᴰ i (map rule d.rules) → FineItem i
    a_rule h = let (f, k, is) = Memᴰ.of_map rule d.rules h in subst FineItem is (keeps.shaped f k)

-- the items js go on behind the items is, where the bytes x are left, to where the bytes y are left
abbrev Further : List Item → List ℕ → List Item → List ℕ → Type 0
Further is x js y = (ks : List Item) × (js ≡ is ++ ks) × (x ≡ flat_map line_of ks ++ y)

regroup : (a b x : List ℕ) → ((a ++ (10 ∷ [])) ++ b) ++ x ≡ a ++ (10 ∷ (b ++ x))
regroup a b x = simp append_assoc

-- of two readings of the same bytes, one goes on where the other ends
compare : (is js : List Item) (x y : List ℕ) → Sound is → Sound js → flat_map line_of is ++ x ≡ flat_map line_of js ++ y → Further is x js y ⊎ Further js y is x
compare [] js x y f g e = inl (js, refl, e)
compare (i ∷ is) [] x y f g e = inr (i ∷ is, refl, sym e)
compare (i ∷ is) (j ∷ js) x y f g e =
    let fi = f i (Memᴰ.head refl) in
    let fj = g j (Memᴰ.head refl) in
    let (p, q) = first_same (render i) (render j) (10 ∷ (flat_map line_of is ++ x)) (10 ∷ (flat_map line_of js ++ y)) (one_line i fi) (one_line j fj) refl refl (sym (regroup (render i) (flat_map line_of is) x) ∙ e ∙ regroup (render j) (flat_map line_of js) y) in
    let same : i ≡ j = one_item i j fi fj p in
    ⊎_elim (λ (ks, r, s). inl (ks, (cc), s)) (λ (ks, r, s). inr (ks, (cc), s)) (compare is js x y (λ k m. f k (Memᴰ.tail m)) (λ k m. g k (Memᴰ.tail m)) (cons_tail q))

event_not_rule : {x : Declared} {f : Form} → event x ≡ rule f → ⊥
event_not_rule e = let z : ◌≡◌ {A = ℕ} 0 1 = cc in omega arith

-- where the items of a draft go on behind those of another one
next_rule : (fs gs : List Form) (i : Item) (js : List Item) → map rule fs ≡ map rule gs ++ (i ∷ js) → (f : Form) × (hs : List Form) × (i ≡ rule f) × (fs ≡ gs ++ (f ∷ hs))
next_rule [] [] i js e = absurd (nil_not_cons e)
next_rule [] (g ∷ gs) i js e = absurd (nil_not_cons e)
next_rule (f ∷ fs) [] i js e = (f, fs, sym (cons_head e), refl)
next_rule (f ∷ fs) (g ∷ gs) i js e = let (h, hs, is, q) = next_rule fs gs i js (cons_tail e) in let p = cons_head e in (h, hs, is, cc)

abbrev NextEvent : List Declared → List Declared → List Form → Item → Type 0
NextEvent xs ys gs i = (x : Declared) × (zs : List Declared) × (i ≡ event x) × (xs ≡ ys ++ (x ∷ zs)) × (gs ≡ [])

abbrev NextRule : List Declared → List Declared → List Form → List Form → Item → Type 0
NextRule xs ys fs gs i = (f : Form) × (hs : List Form) × (i ≡ rule f) × (xs ≡ ys) × (fs ≡ gs ++ (f ∷ hs))

next : (xs ys : List Declared) (fs gs : List Form) (i : Item) (js : List Item) → map event xs ++ map rule fs ≡ (map event ys ++ map rule gs) ++ (i ∷ js) → NextEvent xs ys gs i ⊎ NextRule xs ys fs gs i
next [] [] fs gs i js e = let (f, hs, is, q) = next_rule fs gs i js e in inr (f, hs, is, refl, q)
next [] (y ∷ ys) [] gs i js e = absurd (nil_not_cons e)
next [] (y ∷ ys) (f ∷ fs) gs i js e = absurd (event_not_rule (sym (cons_head e)))
next (x ∷ xs) [] fs [] i js e = inl (x, xs, sym (cons_head e), refl, refl)
next (x ∷ xs) [] fs (g ∷ gs) i js e = absurd (event_not_rule (cons_head e))
next (x ∷ xs) (y ∷ ys) fs gs i js e =
    let p : x ≡ y = (let q = cons_head e in cc) in
    ⊎_elim (λ (z, zs, is, q, r). inl (z, zs, is, (cc), r)) (λ (f, hs, is, q, r). inr (f, hs, is, (cc), r)) (next xs ys fs gs i js (cons_tail e))

-- the items of a draft determine it
rules_same : (fs gs : List Form) → map rule fs ≡ map rule gs → fs ≡ gs
rules_same [] [] e = refl
rules_same [] (g ∷ gs) e = absurd (nil_not_cons e)
rules_same (f ∷ fs) [] e = absurd (nil_not_cons (sym e))
rules_same (f ∷ fs) (g ∷ gs) e = let p = rules_same fs gs (cons_tail e) in let q = cons_head e in cc

parts_same : (xs ys : List Declared) (fs gs : List Form) → map event xs ++ map rule fs ≡ map event ys ++ map rule gs → (xs ≡ ys) × (fs ≡ gs)
parts_same [] [] fs gs e = (refl, rules_same fs gs e)
parts_same [] (y ∷ ys) [] gs e = absurd (nil_not_cons e)
parts_same [] (y ∷ ys) (f ∷ fs) gs e = absurd (event_not_rule (sym (cons_head e)))
parts_same (x ∷ xs) [] fs [] e = absurd (nil_not_cons (sym e))
parts_same (x ∷ xs) [] fs (g ∷ gs) e = absurd (event_not_rule (cons_head e))
parts_same (x ∷ xs) (y ∷ ys) fs gs e = let (p, q) = parts_same xs ys fs gs (cons_tail e) in let r = cons_head e in ((cc), q)

items_same : (b d : Draft) → items b ≡ items d → b ≡ d
items_same b d e =
    let (p, q) = parts_same b.declared d.declared b.rules d.rules e in
    λ i. record { declared = p i; rules = q i }

comes_event : (xs : List Declared) (fs : List Form) (x : Declared) → fs ≡ [] → Comes (section_of xs fs) (event x)
comes_event [] fs x e = tt
comes_event (y ∷ xs) [] x e = tt
comes_event (y ∷ xs) (f ∷ fs) x e = nil_not_cons (sym e)

comes_rule : (xs : List Declared) (fs : List Form) (f : Form) → 0 < length xs → Comes (section_of xs fs) (rule f)
comes_rule [] fs f h = omega arith
comes_rule (x ∷ xs) [] f h = tt
comes_rule (x ∷ xs) (g ∷ fs) f h = tt

mem_at : {X : Type 0} (xs : List X) (x : X) (ys zs : List X) → zs ≡ xs ++ (x ∷ ys) → Memᴰ x zs
mem_at xs x ys zs e = subst (Memᴰ x) (sym e) (Memᴰ.append_right xs (Memᴰ.head refl))

apart_twice : (ns : List (List ℕ)) (n : List ℕ) (ms : List (List ℕ)) → Apart (ns ++ (n ∷ ms)) → Memᴰ n ns → ⊥
apart_twice [] n ms h m = Memᴰ.not-nil m
apart_twice (k ∷ ns) n ms (out, h) m =
    ⊎_elim (λ e. out (Memᴰ.append_right ns (Memᴰ.head (sym e)))) (apart_twice ns n ms h) (Memᴰ.cases_cons m)

-- a line of a draft that keeps the conditions has no fault behind the lines before it
module _ (d b : Draft) (keeps : Keeps d) (line tail : List ℕ) (fed : ended tail ≡ true) where
  said : (i j : Item) → FineItem i → line ≡ render i → LineSays b line tail j → j ≡ i
  said i j fine is (fj, comes, same, feed) = one_item j i fj fine (sym same ∙ is)

  module _ (x : Declared) (zs : List Declared) (is : line ≡ render (event x)) (more : d.declared ≡ b.declared ++ (x ∷ zs)) (none : b.rules ≡ []) where
    is_name : IsName x.name
    is_name = keeps.named x.name (Memᴰ.map (λ y. y.name) (mem_at b.declared x zs d.declared more))

    fine_event : FineItem (event x)
    fine_event = is_name.run

    event_fault : (k : Fault) → Faulty b line tail k → ⊥
    event_fault Byte strange = not_strange (event x) fine_event (subst Strange is strange)
    event_fault Shape no_item = no_item (event x) (fine_event, comes_event b.declared b.rules x none, is, fed)
    event_fault Name (i, says, (n, holds, not)) = not (subst IsName (subst (λ j. Holds j n) (said (event x) i fine_event is says) holds) is_name)
    event_fault Twice (y, says, again) =
        let same : y ≡ x = (let q = said (event x) (event y) fine_event is says in cc) in
        let name = λ (z : Declared). z.name in
        apart_twice (names b) x.name (map name zs) (subst Apart (ap (map name) more ∙ map-append name b.declared (x ∷ zs)) keeps.apart) (subst (λ z. Declares b z.name) same again)
    event_fault Undeclared (f, says, (n, holds, not)) = event_not_rule (sym (said (event x) (rule f) fine_event is says))
    event_fault TooMany (i, says, many) =
        let h = subst (OneTooMany b) (said (event x) i fine_event is says) many in
        omega (arith, simp length-append at (ap length more), keeps.few_events)

  module _ (f : Form) (hs : List Form) (is : line ≡ render (rule f)) (same : d.declared ≡ b.declared) (more : d.rules ≡ b.rules ++ (f ∷ hs)) where
    among : Memᴰ f d.rules
    among = mem_at b.rules f hs d.rules more

    fine_rule : FineItem (rule f)
    fine_rule = keeps.shaped f among

    long : length d.rules ≡ length b.rules + suc (length hs)
    long = simp length-append at (ap length more)

    leaves_more : leaf_count d ≡ leaf_count b + (length (leaves f) + length (flat_map leaves hs))
    leaves_more = simp length-append at (ap length (ap (flat_map leaves) more ∙ joined_append leaves b.rules (f ∷ hs)))

    rule_fault : (k : Fault) → Faulty b line tail k → ⊥
    rule_fault Byte strange = not_strange (rule f) fine_rule (subst Strange is strange)
    rule_fault Shape no_item =
        no_item (rule f) (fine_rule, comes_rule b.declared b.rules f (subst (λ z. 0 < length z) same (keeps.event_first (omega (arith, long)))), is, fed)
    rule_fault Name (i, says, (n, holds, not)) =
        not (keeps.named n (keeps.known f among n (subst (λ j. Holds j n) (said (rule f) i fine_rule is says) holds)))
    rule_fault Twice (y, says, again) = event_not_rule (said (rule f) (event y) fine_rule is says)
    rule_fault Undeclared (g, says, (n, holds, not)) =
        not (subst (λ z. Memᴰ n (map (λ y. y.name) z)) same (keeps.known f among n (subst (λ j. Holds j n) (said (rule f) (rule g) fine_rule is says) holds)))
    rule_fault TooMany (i, says, many) =
        let h = subst (OneTooMany b) (said (rule f) i fine_rule is says) many in
        omega (arith, long, leaves_more, keeps.few_rules, keeps.few_leaves)

  no_fault : (i : Item) (js : List Item) → line ≡ render i → items d ≡ items b ++ (i ∷ js) → (k : Fault) → Faulty b line tail k → ⊥
  no_fault i js is e k =
      ⊎_elim (λ (x, zs, s, more, none). event_fault x zs (is ∙ ap render s) more none k)
      (λ (f, hs, s, same, more). rule_fault f hs (is ∙ ap render s) same more k)
      (next d.declared b.declared d.rules b.rules i js e)

-- a draft that keeps the conditions, and that a file begins with, does not go beyond its first faulty line
module _ (bs : List ℕ) (n : ℕ) (k : Fault) (w : FirstFault bs n k) (d : Draft) (x : List ℕ) (keeps : Keeps d) (begins : bs ≡ rendered d ++ x) where
  back : Further (items w.before) w.rest (items d) x → Further (items d) x (items w.before) w.rest
  back ([], p, q) = ([], sym (append-nil (items d) ∙ p ∙ append-nil (items w.before)), sym q)
  back (i ∷ ks, p, q) =
      let fine = items_sound d keeps i (mem_at (items w.before) i ks (items d) p) in
      let (same, next-tail) = first_same w.line (render i) w.tail (10 ∷ (flat_map line_of ks ++ x)) w.cut.1 (one_line i fine) w.cut.2 refl (sym w.cut.0 ∙ q ∙ regroup (render i) (flat_map line_of ks) x) in
      absurd (no_fault d w.before keeps w.line w.tail (ap ended next-tail) i ks same p k w.faulty)

  within : Further (items d) x (items w.before) w.rest
  within =
      ⊎_elim (λ r. r) back (compare (items d) (items w.before) x w.rest (items_sound d keeps) (items_sound w.before w.keeps)
      (ap (λ z. z ++ x) (sym (rendered_items d)) ∙ sym begins ∙ w.follows ∙ ap (λ z. z ++ w.rest) (rendered_items w.before)))

-- faults with the same number
abbrev fault_of : ℕ → Fault
fault_of n = cond (eqb n 2) Byte (cond (eqb n 3) Shape (cond (eqb n 4) Name (cond (eqb n 5) Twice (cond (eqb n 6) Undeclared TooMany))))

fault_of_lem : (k : Fault) → fault_of (fault_number k) ≡ k
fault_of_lem Byte = refl
fault_of_lem Shape = refl
fault_of_lem Name = refl
fault_of_lem Twice = refl
fault_of_lem Undeclared = refl
fault_of_lem TooMany = refl

at_end : (is js : List Item) (y : List ℕ) → Further is [] js y → (is ≡ js) × (y ≡ [])
at_end is js y ([], p, q) = (sym (p ∙ append-nil is), sym q)
at_end is js y (i ∷ ks, p, q) = absurd (omega (arith, simp length-append at (ap length q)))

meet : (is js : List Item) (x y : List ℕ) → Further is x js y → Further js y is x → (is ≡ js) × (x ≡ y)
meet is js x y (ks, p, q) (ls, r, s) =
    let none : ks ≡ [] = nil_from_length ks (omega (arith, simp length-append at (ap length p), simp length-append at (ap length r))) in
    (sym (p ∙ ap (λ z. is ++ z) none ∙ append-nil is), q ∙ ap (λ z. flat_map line_of z ++ y) none)

-- a draft with an event has bytes
some_bytes : (xs : List Declared) (z : List ℕ) → 0 < length xs → flat_map event_line xs ++ z ≡ [] → ⊥
some_bytes [] z h e = omega arith
some_bytes (x ∷ xs) z h e = nil_not_cons (sym e)

module _ (bs : List ℕ) where
  both_accepted : (d e : Draft) → ComesTo bs (accepted d) → ComesTo bs (accepted e) → d ≡ e
  both_accepted d e (short, is, keeps, some) (short2, is2, keeps2, some2) =
      ⊎_elim (λ r. items_same d e (at_end (items d) (items e) [] r).0) (λ r. sym (items_same e d (at_end (items e) (items d) [] r).0))
      (compare (items d) (items e) [] [] (items_sound d keeps) (items_sound e keeps2) (ap (λ z. z ++ []) (sym (rendered_items d) ∙ sym is ∙ is2 ∙ rendered_items e)))

  not_both : (d : Draft) (n : ℕ) (k : Fault) → ComesTo bs (accepted d) → FirstFault bs n k → ⊥
  not_both d n k (short, is, keeps, some) w =
      let (same, none) = at_end (items d) (items w.before) w.rest (within bs n k w d [] keeps (is ∙ sym (append-nil (rendered d)))) in
      ⊎_elim (λ h. omega (arith, ap length none)) (λ e. some_bytes d.declared (flat_map rule_line d.rules) some (sym is ∙ e)) w.there

  module _ (n m : ℕ) (k j : Fault) (v : FirstFault bs n k) (w : FirstFault bs m j) where
    met : (items v.before ≡ items w.before) × (v.rest ≡ w.rest)
    met =
        meet (items v.before) (items w.before) v.rest w.rest (within bs m j w v.before v.rest v.keeps v.follows)
        (within bs n k v w.before w.rest w.keeps w.follows)

    same_before : v.before ≡ w.before
    same_before = items_same v.before w.before met.0

    not_lower : fault_number k < fault_number j → ⊥
    not_lower h =
        let (p, q) = first_same v.line w.line v.tail w.tail v.cut.1 w.cut.1 v.cut.2 w.cut.2 (sym v.cut.0 ∙ met.1 ∙ w.cut.0) in
        w.lowest k h (subst₃ (λ b l t. Faulty b l t k) same_before p q v.faulty)

  both_refused : (n m : ℕ) (k j : Fault) → FirstFault bs n k → FirstFault bs m j → Line n k ≡ Line m j
  both_refused n m k j v w =
      let same : n ≡ m = v.number ∙ ap (λ z. length z.declared + length z.rules + 1) (same_before n m k j v w) ∙ sym w.number in
      let level : fault_number k ≡ fault_number j = ⊎_elim (λ e. e) (λ s. absurd (⊎_elim (not_lower n m k j v w) (not_lower m n j k w v) s)) (cases_order (fault_number k) (fault_number j)) in
      let fault : k ≡ j = sym (fault_of_lem k) ∙ ap fault_of level ∙ fault_of_lem j in
      cc

pub one_outcome : OneOutcome
one_outcome bs (accepted d) (accepted e) f g = ap accepted (both_accepted bs d e f g)
one_outcome bs (accepted d) (refused TooLong) f g = absurd (omega arith)
one_outcome bs (accepted d) (refused (Line n k)) f g = absurd (not_both bs d n k f g.1)
one_outcome bs (refused TooLong) (accepted e) f g = absurd (omega arith)
one_outcome bs (refused TooLong) (refused TooLong) f g = refl
one_outcome bs (refused TooLong) (refused (Line n k)) f g = absurd (omega arith)
one_outcome bs (refused (Line n k)) (accepted e) f g = absurd (not_both bs e n k g f.1)
one_outcome bs (refused (Line n k)) (refused TooLong) f g = absurd (omega arith)
one_outcome bs (refused (Line n k)) (refused (Line m j)) f g = ap refused (both_refused bs n m k j f.1 g.1)
