-- THE FIELDS: what a template binds, what is assigned and what a message comes to, in the words of an instance and by the paper's eval, match and
-- upd, both ways. Assumes nothing.
use Prim.Native.Nat.{ℕ, zero, suc, ◌+◌, ◌-◌, ◌<◌, ◌≤◌}
use mathlib.Core.Path.{◌≡◌, refl, sym, ◌∙◌, ap, ap₂, subst}
use mathlib.Core.Bool.{Bool, true, false, ◌&&◌, false≢true}
use mathlib.Core.List.{List, [], ◌∷◌}
use mathlib.Core.Logic.{⊎_elim}
use native.Mathlib.Nat.{not-suc-le-zero, le_of_suc-le-suc, eq-or-lt_of_le}
use native.Mathlib.Omega.{arith}
use lib.Dec.{eqb, ltb, leb}
use lib.ListN.{length, set, drop, length-set}
use borrow.Author.Tests.{eqb-true, eq-eqb, ltb-true, ltb-false, lt-ltb, le-ltb, le-leb, lt-leb}
use Rattle.std.specs.Prelude.{None, Some}
use Rattle.base_words.specs.All.{all}
use Rattle.base_words.specs.Iter.{iter}
use Rattle.base_words.specs.Pick.{if◌then◌or_else◌}
use Rattle.base_words.specs.Words.{at}
use Rattle.base_words.specs.Counts.{fields, values, assignments, fields_named}
use Rattle.base_words.proofs.AllLaws.{and_left, and_right, all_at, all_of}
use Rattle.base_words.proofs.PickLaws.{and_true, and_false_left, and_false_right}
use Rattle.base_table.specs.Places.{operand_number, form_place, left_place, binding, assigned_in}
use Rattle.base_table.specs.Table.{message_length, item_at, assignment_count, assignment_at}
use Rattle.base_state.specs.Places.{defined_place, value_place, copy_words}
use Rattle.base_state.specs.Instances.{with_field}
use Rattle.check_limits.specs.Limits.{expression_fits}
use Rattle.meaning.specs.declared.Tuple.{Tuple}
use Rattle.meaning.specs.declared.Evaluated.{Evaluated as Gathered}
use Rattle.meaning.specs.Values.{Value, is_defined, number_in}
use Rattle.meaning.specs.Tuples.{empty, value_of, same_tuple}
use Rattle.meaning.specs.Expressions.{expression_of}
use Rattle.meaning.specs.Templates.{binds, item_value, gathered, evaluated, bind_one, bound}
use Rattle.meaning.specs.Assignments.{Assigned, assigned_value, assign_one, assigned}
use Rattle.proof_steps.proofs.Choices.{by_test, chosen, passed}
use Rattle.paper.specs.Syntax.{Exp, alone, number, Item, exp, Evaluated, value, Assignments, ε, ◌:=◌, ◌&◌}
use Rattle.paper.specs.States.{Local, put, ◌fields:◌}
use Rattle.paper.specs.Evaluation.{operand, worth, Evals, Templates, worked, stays, Matches, Updates, one, both}
use Rattle.proof_paper.specs.Decoders.{span, chain, exp_at, item_of, template_of, message_of, assignment_of, assignments_of, values_of, local_of}
use Rattle.proof_paper.proofs.Stores.{field_put}
use Rattle.proof_paper.proofs.Spans.{from_here, from_next, length-span, span_alike}
use Rattle.proof_paper.proofs.Values.{number_is, worth_is}

-- a template, evaluated, and the values that match it are as long
templates_long : {σ : ℕ → Value} {ts : List Item} {us : List Evaluated} → Templates σ ts us → length us ≡ length ts
templates_long Templates.none = refl
templates_long (worked e t) = ap suc (templates_long t)
templates_long (stays t) = ap suc (templates_long t)

matches_long : {us : List Evaluated} {vs : List ℕ} {A : Assignments} → Matches us vs A → length vs ≡ length us
matches_long Matches.none = refl
matches_long (Matches.same m) = ap suc (matches_long m)
matches_long (Matches.binds m) = ap suc (matches_long m)

-- SMALL THINGS: four of them; turns of a loop that do nothing; upd of one assignment comes to one thing
four : (P : ℕ → Type 0) → P 0 → P 1 → P 2 → P 3 → (j : ℕ) → j < 4 → P j
four P a b c d zero l = a
four P a b c d (suc zero) l = b
four P a b c d (suc (suc zero)) l = c
four P a b c d (suc (suc (suc zero))) l = d
four P a b c d (suc (suc (suc (suc j)))) l = absurd (omega arith)

idle_turns : {A : Type 0} (go : ℕ → A → A) (s : A) (c : ℕ) → ((j : ℕ) → c ≤ j → (x : A) → go j x ≡ x) → (d : ℕ) → iter go s (c + d) ≡ iter go s c
unfolding iter
idle_turns go s c still zero = ap (iter go s) (from_here c)
idle_turns go s c still (suc d) = let z : c + suc d ≡ suc (c + d) = omega arith in ap (iter go s) z ∙ still (c + d) (omega arith) (iter go s (c + d)) ∙ idle_turns go s c still d

all_turns : {A : Type 0} (go : ℕ → A → A) (s : A) (c most : ℕ) → c ≤ most → ((j : ℕ) → c ≤ j → (x : A) → go j x ≡ x) → iter go s most ≡ iter go s c
all_turns go s c most l still = let z : most ≡ c + (most - c) = omega arith in ap (iter go s) z ∙ idle_turns go s c still (most - c)

one_only : {σ : ℕ → Value} (d : ℕ) {τ : ℕ → Value} (x : Exp) (v : ℕ) → worth σ x ≡ Some v → Updates σ (d := x) τ → τ ≡ put σ d (Some v)
one_only {σ} d x v e (one f) = ap (put σ d) (sym f ∙ e)

pub none_only : {σ τ : ℕ → Value} → Updates σ ε τ → τ ≡ σ
none_only Updates.none = refl

-- ONE ASSIGNMENT AFTER THE OTHER, the fields before assignment j being S j
module _ (f : ℕ → Assignments) (S : ℕ → ℕ → Value) (most : ℕ) where
  chain_updates : ((j : ℕ) → j < most → Updates (S j) (f j) (S (suc j))) → (k n : ℕ) → k + n ≤ most → Updates (S k) (chain f k n) (S (k + n))
  unfolding chain
  chain_updates h k zero l = subst (λ j. Updates (S k) ε (S j)) (sym (from_here k)) Updates.none
  chain_updates h k (suc n) l =
      both (h k (omega arith)) (subst (λ j. Updates (S (suc k)) (chain f (suc k) n) (S j)) (sym (from_next k n)) (chain_updates h (suc k) n (omega arith)))

  chain_only : ((j : ℕ) → j < most → (τ : ℕ → Value) → Updates (S j) (f j) τ → τ ≡ S (suc j)) → (k n : ℕ) → k + n ≤ most → (τ : ℕ → Value) → Updates (S k) (chain f k n) τ → τ ≡ S (k + n)
  unfolding chain
  chain_only h k zero l τ u = none_only u ∙ ap S (sym (from_here k))
  chain_only h k (suc n) l τ (both {σ' = ρ} u v) =
      chain_only h (suc k) n (omega arith) τ (subst (λ ρ. Updates ρ (chain f (suc k) n) τ) (h k (omega arith) ρ u) v) ∙ ap S (sym (from_next k n))

-- an instance g that differs from h in its fields alone
pub record FieldsOnly (h g : List ℕ) : Type 0 where
  pub long : length g ≡ copy_words
  pub rest : local_of g ≡ (local_of h fields: (local_of g).σd)

pub fields_start : (h : List ℕ) → length h ≡ copy_words → FieldsOnly h h
fields_start h long = record { long = long; rest = refl }

pub fields_then : (h g k : List ℕ) → FieldsOnly h g → FieldsOnly g k → FieldsOnly h k
fields_then h g k p q = record { long = q.long; rest = q.rest ∙ ap (λ (L : Local). L fields: (local_of k).σd) p.rest }

field_stored : (h g : List ℕ) (d v : ℕ) → d < fields_named → FieldsOnly h g → FieldsOnly h (with_field g d v)
field_stored h g d v l p =
    let e = field_put g p.long d v l in
    record {
      long = length-set (set g (defined_place d) 1) (value_place d) v ∙ length-set g (defined_place d) 1 ∙ p.long;
      rest = e ∙ ap (λ (L : Local). L fields: put (local_of g).σd d (Some v)) p.rest ∙ ap (λ τ. local_of h fields: τ) (sym (ap (λ (L : Local). L.σd) e));
    }

-- THE BINDS of the template of branch b, g the given values
module _ (el : List ℕ) (b : ℕ) (g : Tuple) where
  abbrev len : ℕ
  len = message_length el b

  abbrev pub bound_field : ℕ → ℕ
  bound_field j = at (item_at el b j) (left_place + operand_number)

  abbrev pub is_bind : ℕ → Bool
  is_bind j = eqb (at (item_at el b j) form_place) binding

  abbrev pub binding_of : ℕ → Assignments
  binding_of j = if is_bind j then bound_field j := alone (number (at g.values j)) or_else ε

  abbrev item : ℕ → Item
  item j = item_of (item_at el b j)

  module _ (right : (j : ℕ) → j < len → is_bind j ≡ true → bound_field j < fields_named) (few : len ≤ values) (h : List ℕ) (long : length h ≡ copy_words) where
    abbrev st : ℕ → List ℕ
    st j = iter (bind_one el b g) h j

    bound_turns : bound el b g h ≡ st len
    unfolding bound bind_one binds
    bound_turns = all_turns (bind_one el b g) h len values few (λ j l x. passed (ltb j len && is_bind j) _ x (and_false_left (ltb j len) (is_bind j) (le-ltb j len l)))

    binds_is : (j : ℕ) → j < len → binds el b j ≡ is_bind j
    unfolding binds
    binds_is j l = rw (lt-ltb j len l)

    st_fields : (j : ℕ) → j ≤ len → FieldsOnly h (st j)
    unfolding iter bind_one
    st_fields zero l = fields_start h long
    st_fields (suc j) l =
        by_test (is_bind j)
        (λ e. subst (FieldsOnly h) (sym (chosen (binds el b j) _ (st j) (binds_is j l ∙ e))) (field_stored h (st j) (bound_field j) (value_of g j) (right j l e) (st_fields j (omega arith))))
        (λ e. subst (FieldsOnly h) (sym (passed (binds el b j) _ (st j) (binds_is j l ∙ e))) (st_fields j (omega arith)))

    pub bound-fields : FieldsOnly h (bound el b g h)
    bound-fields = subst (FieldsOnly h) (sym bound_turns) (st_fields len (omega arith))

    module _ (whole : g.length ≡ len) where
      given_at : (j : ℕ) → j < len → value_of g j ≡ at g.values j
      unfolding value_of
      given_at j l = chosen (ltb j g.length) _ 0 (lt-ltb j g.length (omega arith))

      abbrev S : ℕ → ℕ → Value
      S j = (local_of (st j)).σd

      bind_stored : (j : ℕ) → j < len → is_bind j ≡ true → S (suc j) ≡ put (S j) (bound_field j) (Some (at g.values j))
      unfolding iter bind_one
      bind_stored j l e =
          ap (λ y. (local_of y).σd) (chosen (binds el b j) (with_field (st j) (bound_field j) (value_of g j)) (st j) (binds_is j l ∙ e))
          ∙ ap (λ (L : Local). L.σd) (field_put (st j) (st_fields j (omega arith)).long (bound_field j) (value_of g j) (right j l e))
          ∙ ap (λ v. put (S j) (bound_field j) (Some v)) (given_at j l)

      bind_idle : (j : ℕ) → j < len → is_bind j ≡ false → S (suc j) ≡ S j
      unfolding iter bind_one
      bind_idle j l e = ap (λ y. (local_of y).σd) (passed (binds el b j) _ (st j) (binds_is j l ∙ e))

      bind_updates : (j : ℕ) → j < len → Updates (S j) (binding_of j) (S (suc j))
      unfolding worth operand
      bind_updates j l =
          by_test (is_bind j)
          (λ e. subst (λ A. Updates (S j) A (S (suc j))) (sym (chosen (is_bind j) _ ε e)) (subst (Updates (S j) (bound_field j := alone (number (at g.values j)))) (sym (bind_stored j l e)) (one refl)))
          (λ e. subst (λ A. Updates (S j) A (S (suc j))) (sym (passed (is_bind j) _ ε e)) (subst (Updates (S j) ε) (sym (bind_idle j l e)) Updates.none))

      bind_only : (j : ℕ) → j < len → (τ : ℕ → Value) → Updates (S j) (binding_of j) τ → τ ≡ S (suc j)
      unfolding worth operand
      bind_only j l τ u =
          by_test (is_bind j)
          (λ e. one_only (bound_field j) (alone (number (at g.values j))) (at g.values j) refl (subst (λ A. Updates (S j) A τ) (chosen (is_bind j) _ ε e) u) ∙ sym (bind_stored j l e))
          (λ e. none_only (subst (λ A. Updates (S j) A τ) (passed (is_bind j) _ ε e) u) ∙ sym (bind_idle j l e))

      -- upd(σd, match(ẽt, ṽ), σd')
      pub bound_updates : Updates (local_of h).σd (chain binding_of 0 len) (local_of (bound el b g h)).σd
      unfolding iter
      bound_updates =
          let z : 0 + len ≡ len = omega arith in
          subst (Updates (local_of h).σd (chain binding_of 0 len)) (ap S z ∙ ap (λ y. (local_of y).σd) (sym bound_turns)) (chain_updates binding_of S len bind_updates 0 len (omega arith))

      pub bound_only : {τ : ℕ → Value} → Updates (local_of h).σd (chain binding_of 0 len) τ → τ ≡ (local_of (bound el b g h)).σd
      unfolding iter
      bound_only {τ} u =
          let z : 0 + len ≡ len = omega arith in
          chain_only binding_of S len bind_only 0 len (omega arith) τ u ∙ ap S z ∙ ap (λ y. (local_of y).σd) (sym bound_turns)

  -- THE MATCH: each item binds, or its expression is the value given there
  module _ (h : List ℕ) (fits : (j : ℕ) → j < len → is_bind j ≡ false → expression_fits (item_at el b j) ≡ true) where
    abbrev Good : ℕ → Type 0
    Good j = is_bind j ≡ false → expression_of (item_at el b j) h ≡ Some (at g.values j)

    worth-at : (j : ℕ) → j < len → is_bind j ≡ false → worth (local_of h).σd (exp_at (item_at el b j)) ≡ expression_of (item_at el b j) h
    worth-at j l e = worth_is h (item_at el b j) (fits j l e)

    item_bind : (j : ℕ) → is_bind j ≡ true → item j ≡ Item.formal (bound_field j)
    unfolding item_of
    item_bind j e = chosen (is_bind j) _ _ e

    item_exp : (j : ℕ) → is_bind j ≡ false → item j ≡ exp (exp_at (item_at el b j))
    unfolding item_of
    item_exp j e = passed (is_bind j) _ _ e

    abbrev Fitted : ℕ → ℕ → Type 0
    Fitted k n = (us : List Evaluated) × Templates (local_of h).σd (span item k n) us × Matches us (span (at g.values) k n) (chain binding_of k n)

    match_from : ((j : ℕ) → j < len → Good j) → (k n : ℕ) → k + n ≤ len → Fitted k n
    unfolding span chain
    match_from good k zero l = ([], Templates.none, Matches.none)
    match_from good k (suc n) l =
        let (us, t, m) = match_from good (suc k) n (omega arith) in
        let c : k < len = omega arith in
        by_test (is_bind k)
        (λ e. (
          Evaluated.formal (bound_field k) ∷ us,
          subst (λ i. Templates (local_of h).σd (i ∷ span item (suc k) n) (Evaluated.formal (bound_field k) ∷ us)) (sym (item_bind k e)) (stays t),
          subst (λ A. Matches (Evaluated.formal (bound_field k) ∷ us) (span (at g.values) k (suc n)) (A & chain binding_of (suc k) n)) (sym (chosen (is_bind k) (bound_field k := alone (number (at g.values k))) ε e)) (Matches.binds m),
        ))
        (λ e. (
          value (at g.values k) ∷ us,
          subst (λ i. Templates (local_of h).σd (i ∷ span item (suc k) n) (value (at g.values k) ∷ us)) (sym (item_exp k e)) (worked (worth-at k c e ∙ good k c e) t),
          subst (λ A. Matches (value (at g.values k) ∷ us) (span (at g.values) k (suc n)) (A & chain binding_of (suc k) n)) (sym (passed (is_bind k) (bound_field k := alone (number (at g.values k))) ε e)) (Matches.same m),
        ))

    -- a template that is evaluated and matched, from its first item on
    formal_first : {σ : ℕ → Value} {d : ℕ} {ts : List Item} {us : List Evaluated} {v : ℕ} {vs : List ℕ} {A : Assignments} → Templates σ (Item.formal d ∷ ts) us → Matches us (v ∷ vs) A
        → (ws : List Evaluated) × (A' : Assignments) × Templates σ ts ws × Matches ws vs A' × (A ≡ ((d := alone (number v)) & A'))
    formal_first (stays {us = ws} t) (Matches.binds {A = A'} m) = (ws, A', t, m, refl)

    exp_first : {σ : ℕ → Value} {x : Exp} {ts : List Item} {us : List Evaluated} {v : ℕ} {vs : List ℕ} {A : Assignments} → Templates σ (exp x ∷ ts) us → Matches us (v ∷ vs) A
        → (ws : List Evaluated) × (A' : Assignments) × Templates σ ts ws × Matches ws vs A' × (A ≡ (ε & A')) × (worth σ x ≡ Some v)
    exp_first (worked {us = ws} e t) (Matches.same {A = A'} m) = (ws, A', t, m, refl, e)

    abbrev Matched : ℕ → ℕ → Assignments → Type 0
    Matched k n A = ((j : ℕ) → k ≤ j → j < k + n → Good j) × (A ≡ chain binding_of k n)

    match_back : (k n : ℕ) → k + n ≤ len → {us : List Evaluated} {A : Assignments} → Templates (local_of h).σd (span item k n) us → Matches us (span (at g.values) k n) A → Matched k n A
    unfolding span chain
    match_back k zero l Templates.none Matches.none = ((λ j p q. absurd (omega arith)), refl)
    match_back k (suc n) l {us} {A} t m =
        let c : k < len = omega arith in
        by_test (is_bind k)
        (λ e.
        let (ws, A', t', m', q) = formal_first (subst (λ i. Templates (local_of h).σd (i ∷ span item (suc k) n) us) (item_bind k e) t) m in
        let r = match_back (suc k) n (omega arith) t' m' in
        ((λ j p w. on_first_lem e r j p w), q ∙ ap₂ ◌&◌ (sym (chosen (is_bind k) (bound_field k := alone (number (at g.values k))) ε e)) r.1))
        (λ e.
        let (ws, A', t', m', q, y) = exp_first (subst (λ i. Templates (local_of h).σd (i ∷ span item (suc k) n) us) (item_exp k e) t) m in
        let r = match_back (suc k) n (omega arith) t' m' in
        ((λ j p w. on_value e (sym (worth-at k c e) ∙ y) r j p w), q ∙ ap₂ ◌&◌ (sym (passed (is_bind k) (bound_field k := alone (number (at g.values k))) ε e)) r.1))
      where
        on_first_lem : is_bind k ≡ true → {B : Assignments} → Matched (suc k) n B → (j : ℕ) → k ≤ j → j < k + suc n → Good j
        on_first_lem e r j p w =
            ⊎_elim (λ z d. absurd (false≢true (sym (subst (λ i. is_bind i ≡ false) (sym z) d) ∙ e))) (λ s. r.0 j s (omega arith)) (eq-or-lt_of_le p)

        on_value : is_bind k ≡ false → expression_of (item_at el b k) h ≡ Some (at g.values k) → {B : Assignments} → Matched (suc k) n B → (j : ℕ) → k ≤ j → j < k + suc n → Good j
        on_value e y r j p w = ⊎_elim (λ z d. subst (λ i. expression_of (item_at el b i) h ≡ Some (at g.values i)) z y) (λ s. r.0 j s (omega arith)) (eq-or-lt_of_le p)

    -- what the engine works out
    abbrev out : Gathered
    out = evaluated el b h g

    bind_value : (j : ℕ) → j < len → is_bind j ≡ true → item_value el b h g j ≡ Some (value_of g j)
    unfolding item_value binds
    bind_value j l e = passed (leb len j) _ _ (lt-leb len j l) ∙ chosen (ltb j len && is_bind j) _ _ (and_true (ltb j len) (is_bind j) (lt-ltb j len l) e)

    exp-value : (j : ℕ) → j < len → is_bind j ≡ false → item_value el b h g j ≡ expression_of (item_at el b j) h
    unfolding item_value binds
    exp-value j l e = passed (leb len j) _ _ (lt-leb len j l) ∙ passed (ltb j len && is_bind j) _ _ (and_false_right (ltb j len) (is_bind j) e)

    spare_value : (j : ℕ) → len ≤ j → item_value el b h g j ≡ Some 0
    unfolding item_value
    spare_value j l = chosen (leb len j) _ _ (le-leb len j l)

    pub out_at : (j : ℕ) → j < values → at out.tuple.values j ≡ number_in (item_value el b h g j)
    unfolding evaluated gathered
    out_at = four (λ j. at out.tuple.values j ≡ number_in (item_value el b h g j)) refl refl refl refl

    pub out_defined : out.defined ≡ true → (j : ℕ) → j < values → is_defined (item_value el b h g j) ≡ true
    unfolding evaluated gathered
    out_defined e =
        let d : ℕ → Bool = λ j. is_defined (item_value el b h g j) in
        four (λ j. is_defined (item_value el b h g j) ≡ true)
        (and_left (d 0) (d 1) (and_left (d 0 && d 1) (d 2) (and_left (d 0 && d 1 && d 2) (d 3) e)))
        (and_right (d 0) (d 1) (and_left (d 0 && d 1) (d 2) (and_left (d 0 && d 1 && d 2) (d 3) e)))
        (and_right (d 0 && d 1) (d 2) (and_left (d 0 && d 1 && d 2) (d 3) e))
        (and_right (d 0 && d 1 && d 2) (d 3) e)

    pub defined_out : ((j : ℕ) → j < values → is_defined (item_value el b h g j) ≡ true) → out.defined ≡ true
    unfolding evaluated gathered
    defined_out f =
        let a : is_defined (item_value el b h g 0) ≡ true = f 0 (omega arith) in
        let c : is_defined (item_value el b h g 1) ≡ true = f 1 (omega arith) in
        let d : is_defined (item_value el b h g 2) ≡ true = f 2 (omega arith) in
        let e : is_defined (item_value el b h g 3) ≡ true = f 3 (omega arith) in
        rw (a, c, d, e)

    module _ (few : len ≤ values) where
      -- the engine's match is each item's, and the lengths
      good_match : out.defined ≡ true → same_tuple out.tuple g ≡ true → (g.length ≡ len) × ((j : ℕ) → j < len → Good j)
      unfolding same_tuple evaluated gathered
      good_match d s =
          let w : len ≡ g.length = eqb-true len g.length (and_left (eqb len g.length) _ s) in (
            sym w,
            (λ j l e.
                let q : at out.tuple.values j ≡ at g.values j = eqb-true _ _ (all_at (λ i. eqb (at out.tuple.values i) (at g.values i)) len (and_right (eqb len g.length) _ s) j l) in
                sym (exp-value j l e) ∙ number_is (item_value el b h g j) (at g.values j) (out_defined d j (omega arith)) (sym (out_at j (omega arith)) ∙ q)),
          )

      match_good : g.length ≡ len → ((j : ℕ) → j < len → Good j) → (out.defined ≡ true) × (same_tuple out.tuple g ≡ true)
      unfolding same_tuple evaluated gathered value_of is_defined number_in
      match_good w good = (defined_out defined_at, and_true (eqb out.tuple.length g.length) _ (eq-eqb out.tuple.length g.length (length_out ∙ sym w)) (subst (λ n. all (λ j. eqb (at out.tuple.values j) (at g.values j)) n ≡ true) (sym length_out) (all_of (λ j. eqb (at out.tuple.values j) (at g.values j)) len (λ j l. eq-eqb _ _ (equal_at j l)))))
        where
          length_out : out.tuple.length ≡ len
          length_out = refl

          number_at : (j : ℕ) → j < len → item_value el b h g j ≡ Some (at g.values j)
          number_at j l =
              by_test (is_bind j)
              (λ e. bind_value j l e ∙ ap Some (chosen (ltb j g.length) _ 0 (lt-ltb j g.length (omega arith))))
              (λ e. exp-value j l e ∙ good j l e)

          defined_at : (j : ℕ) → j < values → is_defined (item_value el b h g j) ≡ true
          defined_at j l =
              by_test (ltb j len)
              (λ e. ap is_defined (number_at j (ltb-true j len e)))
              (λ e. ap is_defined (spare_value j (ltb-false j len e)))

          equal_at : (j : ℕ) → j < len → at out.tuple.values j ≡ at g.values j
          equal_at j l = out_at j (omega arith) ∙ ap number_in (number_at j l)

      -- eval(t̃, σd, ẽt) and match(ẽt, ṽ) = A
      pub match_sound : out.defined ≡ true → same_tuple out.tuple g ≡ true
          → (us : List Evaluated) × Templates (local_of h).σd (template_of el b) us × Matches us (values_of g) (chain binding_of 0 len)
      unfolding template_of values_of
      match_sound d s =
          let w = good_match d s in
          subst (λ n. (us : List Evaluated) × Templates (local_of h).σd (span item 0 len) us × Matches us (span (at g.values) 0 n) (chain binding_of 0 len)) (sym w.0) (match_from w.1 0 len (omega arith))

      pub match_complete : {us : List Evaluated} {A : Assignments} → Templates (local_of h).σd (template_of el b) us → Matches us (values_of g) A
          → (out.defined ≡ true) × (same_tuple out.tuple g ≡ true) × (g.length ≡ len) × (A ≡ chain binding_of 0 len)
      unfolding template_of values_of
      match_complete {us} {A} t m =
          let w : g.length ≡ len = sym (length-span (at g.values) 0 g.length) ∙ matches_long m ∙ templates_long t ∙ length-span item 0 len in
          let r = match_back 0 len (omega arith) t (subst (λ n. Matches us (span (at g.values) 0 n) A) w m) in
          let e = match_good w (λ j l. r.0 j (omega arith) (omega arith)) in
          (e.0, e.1, w, r.1)

-- A MESSAGE: its expressions, none of which binds
module _ (el : List ℕ) (b : ℕ) (h : List ℕ) (few : message_length el b ≤ values) (plain : (j : ℕ) → j < message_length el b → eqb (at (item_at el b j) form_place) binding ≡ false)
    (fits : (j : ℕ) → j < message_length el b → expression_fits (item_at el b j) ≡ true) where
  abbrev long : ℕ
  long = message_length el b

  abbrev x : ℕ → Exp
  x j = exp_at (item_at el b j)

  evals_from : {σ : ℕ → Value} (y : ℕ → Exp) (k n : ℕ) → ((j : ℕ) → j < n → is_defined (worth σ (y (k + j))) ≡ true) → Evals σ (span y k n) (span (λ j. number_in (worth σ (y j))) k n)
  unfolding span
  evals_from y k zero d = Evals.none
  evals_from {σ} y k (suc n) d =
      Evals.more (number_is (worth σ (y k)) (number_in (worth σ (y k))) (subst (λ i. is_defined (worth σ (y i)) ≡ true) (from_here k) (d 0 (omega arith))) refl)
      (evals_from y (suc k) n (λ j l. subst (λ i. is_defined (worth σ (y i)) ≡ true) (from_next k j) (d (suc j) (omega arith))))

  evals_back : {σ : ℕ → Value} (y : ℕ → Exp) (k n : ℕ) {vs : List ℕ} → Evals σ (span y k n) vs → (vs ≡ span (λ j. number_in (worth σ (y j))) k n) × ((j : ℕ) → j < n → is_defined (worth σ (y (k + j))) ≡ true)
  unfolding span number_in is_defined
  evals_back y k zero Evals.none = (refl, (λ j l. absurd (not-suc-le-zero l)))
  evals_back {σ} y k (suc n) (Evals.more {v = v} {vs = vs} e r) =
      let (q, d) = evals_back y (suc k) n r in
      let z : v ≡ number_in (worth σ (y k)) = sym (ap number_in e) in
      (ap₂ ◌∷◌ z q, first d)
    where
      first : ((j : ℕ) → j < n → is_defined (worth σ (y (suc k + j))) ≡ true) → (j : ℕ) → j < suc n → is_defined (worth σ (y (k + j))) ≡ true
      first d zero l = subst (λ i. is_defined (worth σ (y i)) ≡ true) (sym (from_here k)) (ap is_defined e)
      first d (suc j) l = subst (λ i. is_defined (worth σ (y i)) ≡ true) (sym (from_next k j)) (d j (le_of_suc-le-suc l))

  abbrev sent_out : Gathered
  sent_out = evaluated el b h empty

  said_at : (j : ℕ) → j < long → item_value el b h empty j ≡ worth (local_of h).σd (x j)
  said_at j l = exp-value el b empty h (λ i r e. fits i r) j l (plain j l) ∙ sym (worth_is h (item_at el b j) (fits j l))

  said_is : values_of sent_out.tuple ≡ span (λ j. number_in (worth (local_of h).σd (x j))) 0 long
  unfolding values_of evaluated gathered
  said_is =
      span_alike (at sent_out.tuple.values) (λ j. number_in (worth (local_of h).σd (x j))) 0 long
      (λ j l.
      let z : 0 + j ≡ j = omega arith in
      subst (λ i. at sent_out.tuple.values i ≡ number_in (worth (local_of h).σd (x i))) (sym z)
      (out_at el b empty h (λ i r e. fits i r) j (omega arith) ∙ ap number_in (said_at j l)))

  -- eval(e͠xp, σd, ṽ)
  pub message_sound : sent_out.defined ≡ true → Evals (local_of h).σd (message_of el b) (values_of sent_out.tuple)
  unfolding message_of
  message_sound d =
      subst (Evals (local_of h).σd (span x 0 long)) (sym said_is)
      (evals_from x 0 long (λ j l. let z : j ≡ 0 + j = omega arith in subst (λ i. is_defined (worth (local_of h).σd (x i)) ≡ true) z (ap is_defined (sym (said_at j l)) ∙ out_defined el b empty h (λ i r e. fits i r) d j (omega arith))))

  pub message_complete : {vs : List ℕ} → Evals (local_of h).σd (message_of el b) vs → (sent_out.defined ≡ true) × (vs ≡ values_of sent_out.tuple)
  unfolding message_of is_defined
  message_complete r =
      let (q, d) = evals_back x 0 long r in (
        defined_out el b empty h (λ i r e. fits i r) (λ j l.
            by_test (ltb j long)
            (λ e. let s = ltb-true j long e in let z : 0 + j ≡ j = omega arith in ap is_defined (said_at j s) ∙ subst (λ i. is_defined (worth (local_of h).σd (x i)) ≡ true) z (d j s))
            (λ e. ap is_defined (spare_value el b empty h (λ i r e. fits i r) j (ltb-false j long e)))),
        q ∙ sym said_is,
      )

-- THE ASSIGNMENTS
module _ (el : List ℕ) (few : assignment_count el ≤ assignments) (right : (j : ℕ) → j < assignment_count el → at (assignment_at el j) 0 < fields_named)
    (fits : (j : ℕ) → j < assignment_count el → expression_fits (drop assigned_in (assignment_at el j)) ≡ true) (h : List ℕ) (long : length h ≡ copy_words) where
  abbrev count : ℕ
  count = assignment_count el

  abbrev to : ℕ → Assigned
  to j = iter (assign_one el) (record { defined = true; instance = h }) j

  abbrev target : ℕ → ℕ
  target j = at (assignment_at el j) 0

  abbrev source : ℕ → List ℕ
  source j = drop assigned_in (assignment_at el j)

  abbrev T : ℕ → ℕ → Value
  T j = (local_of (to j).instance).σd

  assigned_turns : assigned el h ≡ to count
  unfolding assigned assign_one
  assigned_turns = all_turns (assign_one el) (record { defined = true; instance = h }) count assignments few (λ j l a. chosen (leb count j) a _ (le-leb count j l))

  abbrev Next : Assigned → Assigned → ℕ → Value → Type 0
  Next a c d w = (v : ℕ) × (a.defined ≡ true) × (w ≡ Some v) × (c.instance ≡ with_field a.instance d v)

  one_back : (t : Bool) (i : List ℕ) (d : ℕ) (w : Value) → (if t then assigned_value i d w or_else record { defined = t; instance = i }).defined ≡ true
      → Next (record { defined = t; instance = i }) (if t then assigned_value i d w or_else record { defined = t; instance = i }) d w
  unfolding if◌then◌or_else◌ assigned_value
  one_back true i d (Some v) e = (v, refl, refl, refl)
  one_back true i d None e = absurd (false≢true e)
  one_back false i d w e = absurd (false≢true e)

  turn_is : (j : ℕ) → j < count → to (suc j) ≡ (if (to j).defined then assigned_value (to j).instance (target j) (expression_of (source j) (to j).instance) or_else to j)
  unfolding iter assign_one
  turn_is j l = passed (leb count j) (to j) _ (lt-leb count j l)

  turn_back : (j : ℕ) → j < count → (to (suc j)).defined ≡ true → Next (to j) (to (suc j)) (target j) (expression_of (source j) (to j).instance)
  turn_back j l e =
      subst (λ c. Next (to j) c (target j) (expression_of (source j) (to j).instance)) (sym (turn_is j l))
      (one_back (to j).defined (to j).instance (target j) (expression_of (source j) (to j).instance) (ap (λ (a : Assigned). a.defined) (sym (turn_is j l)) ∙ e))

  turn_on : (j : ℕ) → j < count → (to j).defined ≡ true → (v : ℕ) → expression_of (source j) (to j).instance ≡ Some v → to (suc j) ≡ record { defined = true; instance = with_field (to j).instance (target j) v }
  unfolding assigned_value
  turn_on j l e v w = turn_is j l ∙ chosen (to j).defined _ (to j) e ∙ ap (assigned_value (to j).instance (target j)) w

  before_defined : (d j : ℕ) → j + d ≤ count → (to (j + d)).defined ≡ true → (to j).defined ≡ true
  before_defined zero j l e = subst (λ i. (to i).defined ≡ true) (from_here j) e
  before_defined (suc d) j l e = (turn_back j (omega arith) (before_defined d (suc j) (omega arith) (subst (λ i. (to i).defined ≡ true) (from_next j d) e))).1

  to_fields : (j : ℕ) → j ≤ count → FieldsOnly h (to j).instance
  unfolding iter assigned_value
  to_fields zero l = fields_start h long
  to_fields (suc j) l =
      by_test (to j).defined
      (λ e. go (to_fields j (omega arith)) e (expression_of (source j) (to j).instance) refl)
      (λ e. subst (λ (c : Assigned). FieldsOnly h c.instance) (sym (turn_is j l ∙ passed (to j).defined _ (to j) e)) (to_fields j (omega arith)))
    where
      go : FieldsOnly h (to j).instance → (to j).defined ≡ true → (w : Value) → expression_of (source j) (to j).instance ≡ w → FieldsOnly h (to (suc j)).instance
      go p e (Some v) q = subst (λ (c : Assigned). FieldsOnly h c.instance) (sym (turn_on j l e v q)) (field_stored h (to j).instance (target j) v (right j l) p)
      go p e None q =
          subst (λ (c : Assigned). FieldsOnly h c.instance) (sym (turn_is j l ∙ chosen (to j).defined _ (to j) e ∙ ap (assigned_value (to j).instance (target j)) q)) p

  pub assigned-fields : FieldsOnly h (assigned el h).instance
  assigned-fields = subst (λ (c : Assigned). FieldsOnly h c.instance) (sym assigned_turns) (to_fields count (omega arith))

  stored_is : (j : ℕ) → j < count → (v : ℕ) → (to (suc j)).instance ≡ with_field (to j).instance (target j) v → T (suc j) ≡ put (T j) (target j) (Some v)
  stored_is j l v e = ap (λ y. (local_of y).σd) e ∙ ap (λ (L : Local). L.σd) (field_put (to j).instance (to_fields j (omega arith)).long (target j) v (right j l))

  source_is : (j : ℕ) → j < count → worth (T j) (exp_at (source j)) ≡ expression_of (source j) (to j).instance
  source_is j l = worth_is (to j).instance (source j) (fits j l)

  -- upd(σd, A, σd')
  pub assigned_sound : (assigned el h).defined ≡ true → Updates (local_of h).σd (assignments_of el) (local_of (assigned el h).instance).σd
  unfolding assignments_of assignment_of iter
  assigned_sound e =
      let z : 0 + count ≡ count = omega arith in
      let d : (to count).defined ≡ true = ap (λ (c : Assigned). c.defined) (sym assigned_turns) ∙ e in
      subst (Updates (local_of h).σd (assignments_of el)) (ap T z ∙ ap (λ (c : Assigned). (local_of c.instance).σd) (sym assigned_turns))
      (chain_updates (assignment_of el) T count (λ j l.
      let i : suc j + (count - suc j) ≡ count = omega arith in
      let (v, f, w, q) = turn_back j l (before_defined (count - suc j) (suc j) (omega arith) (subst (λ k. (to k).defined ≡ true) (sym i) d)) in
      subst (Updates (T j) (assignment_of el j)) (sym (stored_is j l v q)) (one (source_is j l ∙ w))) 0 count (omega arith))

  on_from : (k n : ℕ) → k + n ≤ count → (to k).defined ≡ true → {τ : ℕ → Value} → Updates (T k) (chain (assignment_of el) k n) τ → ((to (k + n)).defined ≡ true) × (τ ≡ T (k + n))
  unfolding chain assignment_of
  on_from k zero l e u = (subst (λ i. (to i).defined ≡ true) (sym (from_here k)) e, none_only u ∙ ap T (sym (from_here k)))
  on_from k (suc n) l e {τ} (both u v) =
      let (w, x, y) = one-worth u in
      let c : k < count = omega arith in
      let q = turn_on k c e w (sym (source_is k c) ∙ x) in
      let p = y ∙ sym (stored_is k c w (ap (λ (a : Assigned). a.instance) q)) in
      let r = on_from (suc k) n (omega arith) (ap (λ (a : Assigned). a.defined) q) (subst (λ ρ. Updates ρ (chain (assignment_of el) (suc k) n) τ) p v) in
      (subst (λ i. (to i).defined ≡ true) (sym (from_next k n)) r.0, r.1 ∙ ap T (sym (from_next k n)))
    where
      one-worth : {σ : ℕ → Value} {d : ℕ} {ρ : ℕ → Value} {z : Exp} → Updates σ (d := z) ρ → (v : ℕ) × (worth σ z ≡ Some v) × (ρ ≡ put σ d (Some v))
      one-worth (one {v = v} f) = (v, f, refl)

  pub assigned_complete : {τ : ℕ → Value} → Updates (local_of h).σd (assignments_of el) τ → ((assigned el h).defined ≡ true) × (τ ≡ (local_of (assigned el h).instance).σd)
  unfolding assignments_of iter
  assigned_complete u =
      let z : 0 + count ≡ count = omega arith in
      let r = on_from 0 count (omega arith) refl u in
      (ap (λ (c : Assigned). c.defined) (assigned_turns) ∙ subst (λ i. (to i).defined ≡ true) z r.0, r.1 ∙ ap T z ∙ ap (λ (c : Assigned). (local_of c.instance).σd) (sym assigned_turns))
