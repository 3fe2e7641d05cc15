-- What the calls on the copy of an instance come to, over their results. Assumes nothing.
use Prim.Native.Nat.{ℕ, zero, suc}
use mathlib.Core.Path.{◌≡◌, refl, sym, ap, ◌∙◌}
use mathlib.Core.Bool.{Bool, true, false, ◌&&◌}
use mathlib.Core.List.{List, [], ◌∷◌, ◌++◌}
use native.Mathlib.Omega.{arith}
use lib.Dec.{eqb}
use borrow.Author.Tests.{eq-eqb, ne_eqb}
use Rattle.base_words.specs.Pick.{if◌then◌or_else◌}
use Rattle.base_words.specs.Each.{each}
use Rattle.base_words.proofs.PickLaws.{pick_yes, pick_no}
use Rattle.base_kinds.specs.declared.moves.Move.{Move}
use Rattle.base_table.specs.Table.{message_name}
use Rattle.meaning.specs.declared.Tuple.{Tuple}
use Rattle.meaning.specs.declared.Evaluated.{Evaluated}
use Rattle.meaning.specs.Tuples.{same_tuple}
use Rattle.meaning.specs.Refusals.{Refusal, ◌unless◌, first_refusal}
use Rattle.meaning.specs.Requirements.{below_limit}
use Rattle.meaning.specs.Changes.{expected, received, worked, message_sent, taken, moved}
use Rattle.meaning.specs.Step.{Site, template, work, sent, defined, matches, after_taking, queued, space, refusals_at, instance_after}
use Rattle.step_refusals.specs.Chain.{number_at, listed, before_fields, of_fields, queued_for, space_for, of_queues}
use Rattle.step_refusals.proofs.NumberLaws.{stops, passes, numbered}
use Rattle.step_plan.specs.declared.Plan.{Plan}
use Rattle.step_plan.specs.Plans.{site_at, of_instance, of_guard, copy_after, refused_plan, Matched, Prepared, Decided}

-- binds, assignments, message, taking
pub worked_out : (el h : List ℕ) (m : Move) (b : ℕ) (g : Tuple) (h₁ h₂ h₃ : List ℕ) (w d : Bool) (s : Evaluated)
    → h₁ ≡ received el h m b g
    → record { defined = w; instance = h₂ } ≡ worked el h₁ m
    → s ≡ message_sent el h₂ m b
    → h₃ ≡ taken el m b h₂
    → d ≡ w && s.defined
    → (◌≡◌ {A = Evaluated} (record { defined = d; tuple = s.tuple }) (record { defined = defined (site_at el h m b g 0 0); tuple = (sent (site_at el h m b g 0 0)).tuple }))
    × (h₃ ≡ after_taking (site_at el h m b g 0 0))
unfolding defined sent work after_taking
worked_out el h m b g h₁ h₂ h₃ w d s e₁ e₂ e₃ e₄ e₅ =
    let e : worked el (received el h m b g) m ≡ record { defined = w; instance = h₂ } = ap (λ (l : List ℕ). worked el l m) (sym e₁) ∙ sym e₂ in
    (rw (e, ← e₃, e₅), rw e e₄)

pub matched : (x : Site) (expected : Tuple) (w : Evaluated) (h : List ℕ) (same : Bool) (n : ℕ)
    → w ≡ record { defined = defined x; tuple = (sent x).tuple }
    → h ≡ after_taking x
    → same ≡ same_tuple expected x.given
    → n ≡ first_refusal (of_fields x.move w.defined same)
    → Matched x expected (record { number = n; expected = expected; sent = w.tuple }) h
matched x expected w h same n e₁ e₂ e₃ e₄ =
    record {
      number = e₄ ∙ rw (e₁, e₃);
      expects = refl;
      sends = ap (λ (v : Evaluated). v.tuple) e₁;
      copy = e₂;
    }

abbrev number : Plan → ℕ
number r = r.number

-- 12 to 14, in parts
module _ (x : Site) where
  later : List Refusal
  later = 13 unless (template x).defined ∷ of_fields x.move (defined x) (matches x)

  in_parts : of_instance x ≡ before_fields x.element x.instance x.move x.branch ++ later
  unfolding refusals_at of_instance number_at listed before_fields of_fields later
  in_parts = refl

  all_numbered : numbered (before_fields x.element x.instance x.move x.branch) ≡ true
  unfolding numbered each refusals_at number_at listed before_fields
  all_numbered = refl

  guard_parts : of_guard x ≡ before_fields x.element x.instance x.move x.branch ++ (13 unless (template x).defined ∷ [])
  unfolding refusals_at of_guard number_at listed before_fields
  guard_parts = refl

  untouched : (h : List ℕ) → (first_refusal (of_guard x) ≡ 0 → ⊥) → h ≡ x.instance → h ≡ copy_after x
  unfolding copy_after
  untouched h k e = pick_no _ _ _ _ (ne_eqb _ 0 k) e

  worked_on : (h : List ℕ) → first_refusal (of_guard x) ≡ 0 → h ≡ after_taking x → h ≡ copy_after x
  unfolding copy_after
  worked_on h k e = pick_yes _ _ _ _ (eq-eqb _ 0 k) e

  module _ (n : ℕ) (e : n ≡ first_refusal (before_fields x.element x.instance x.move x.branch)) where
    pub prepared_early : (r : Plan) (h : List ℕ) → (n ≡ 0 → ⊥) → r ≡ refused_plan n → h ≡ x.instance → Prepared x r h
    prepared_early r h k q same =
        record {
          number = ap number q ∙ e ∙ sym (ap first_refusal in_parts ∙ stops (before_fields x.element x.instance x.move x.branch) later (λ z. k (e ∙ z)));
          expects = λ z. absurd (k (sym (ap number q) ∙ z));
          sends = λ z. absurd (k (sym (ap number q) ∙ z));
          copy = λ z. absurd (k (sym (ap number q) ∙ z));
          left = untouched h (λ z. k (e ∙ sym (ap first_refusal guard_parts ∙ stops (before_fields x.element x.instance x.move x.branch) (13 unless (template x).defined ∷ []) (λ y. k (e ∙ y))) ∙ z)) same;
        }

    module _ (k : n ≡ 0) where
      past : first_refusal (of_instance x) ≡ first_refusal later
      past = ap first_refusal in_parts ∙ passes (before_fields x.element x.instance x.move x.branch) later all_numbered (sym e ∙ k)

      guard_past : first_refusal (of_guard x) ≡ first_refusal (13 unless (template x).defined ∷ [])
      guard_past = ap first_refusal guard_parts ∙ passes (before_fields x.element x.instance x.move x.branch) (13 unless (template x).defined ∷ []) all_numbered (sym e ∙ k)

      module _ (v : Evaluated) (f : v ≡ expected x.element x.instance x.move x.branch x.given) where
        pub prepared_undefined : (r : Plan) (h : List ℕ) → v.defined ≡ false → r ≡ refused_plan 13 → h ≡ x.instance → Prepared x r h
        unfolding first_refusal if◌then◌or_else◌ template later
        prepared_undefined r h u q same =
            record {
              number = ap number q ∙ sym (past ∙ rw (← f, u));
              expects = λ z. absurd (never (sym (ap number q) ∙ z));
              sends = λ z. absurd (never (sym (ap number q) ∙ z));
              copy = λ z. absurd (never (sym (ap number q) ∙ z));
              left = untouched h (λ z. never (sym (guard_past ∙ rw (← f, u)) ∙ z)) same;
            }
          where
            never : ◌≡◌ {A = ℕ} 13 0 → ⊥
            never z = omega arith

        pub prepared_whole : (r : Plan) (h : List ℕ) → v.defined ≡ true → Matched x v.tuple r h → Prepared x r h
        unfolding first_refusal if◌then◌or_else◌ template later matches
        prepared_whole r h u d =
            record {
              number = d.number ∙ sym (past ∙ rw (← f, u));
              expects = λ z. rw (← f) d.expects;
              sends = λ z. d.sends;
              copy = λ z. d.copy;
              left = worked_on h (guard_past ∙ rw (← f, u)) d.copy;
            }

-- 12 to 18, in parts
abbrev bare : Site → Site
bare x = site_at x.element x.instance x.move x.branch x.given 0 0

module _ (x : Site) (q : List ℕ) (p : Plan) (h : List ℕ) (d : Prepared (bare x) p h) where
  first_is : p.number ≡ first_refusal (of_instance x)
  unfolding refusals_at of_instance template defined matches work sent
  first_is = d.number

  last : List Refusal
  last = of_queues x.element (after_taking x) x.move x.branch (queued x q) (below_limit x.move x.made x.limit) (space x q)

  whole_parts : refusals_at x q ≡ of_instance x ++ last
  unfolding refusals_at of_instance number_at listed of_queues last
  whole_parts = refl

  parts_numbered : numbered (of_instance x) ≡ true
  unfolding numbered each refusals_at of_instance
  parts_numbered = refl

  left_is : h ≡ copy_after x
  unfolding copy_after of_guard refusals_at template after_taking work
  left_is = d.left

  pub decided_early : (r : Plan) → (p.number ≡ 0 → ⊥) → r ≡ refused_plan p.number → Decided x q r h
  decided_early r k g =
      record {
        number = ap number g ∙ first_is ∙ sym (ap first_refusal whole_parts ∙ stops (of_instance x) last (λ z. k (first_is ∙ z)));
        expects = λ z. absurd (k (sym (ap number g) ∙ z));
        sends = λ z. absurd (k (sym (ap number g) ∙ z));
        copy = λ z. absurd (k (sym (ap number g) ∙ z));
        refused = λ z. (g ∙ ap refused_plan (sym (ap number g)), left_is);
      }

  module _ (k : p.number ≡ 0) (n : ℕ)
      (e : n ≡ first_refusal (of_queues x.element h x.move x.branch (queued_for x.move q (message_name x.element x.branch) x.given) (below_limit x.move x.made x.limit) (space_for x.move q (message_name x.element x.branch)))) where
    copy_is : h ≡ after_taking x
    unfolding after_taking work
    copy_is = d.copy k

    last_is : n ≡ first_refusal (refusals_at x q)
    unfolding queued queued_for space space_for last
    last_is = e ∙ rw copy_is (sym (ap first_refusal whole_parts ∙ passes (of_instance x) last parts_numbered (sym first_is ∙ k)))

    pub decided_late : (r : Plan) → (n ≡ 0 → ⊥) → r ≡ refused_plan n → Decided x q r h
    decided_late r f g =
        record {
          number = ap number g ∙ last_is;
          expects = λ z. absurd (f (sym (ap number g) ∙ z));
          sends = λ z. absurd (f (sym (ap number g) ∙ z));
          copy = λ z. absurd (f (sym (ap number g) ∙ z));
          refused = λ z. (g ∙ ap refused_plan (sym (ap number g)), left_is);
        }

    pub decided_whole : (h₂ : List ℕ) → n ≡ 0 → h₂ ≡ moved x.element x.move x.branch h → Decided x q p h₂
    unfolding instance_after template sent work
    decided_whole h₂ f g =
        record {
          number = k ∙ sym f ∙ last_is;
          expects = λ z. d.expects z;
          sends = λ z. d.sends z;
          copy = λ z. g ∙ rw copy_is;
          refused = λ z. absurd (z k);
        }

-- the promise of a plan allows one plan and one copy
pub decided_once : (x : Site) (q : List ℕ) (r₁ r₂ : Plan) (h₁ h₂ : List ℕ) → Decided x q r₁ h₁ → Decided x q r₂ h₂ → (r₁ ≡ r₂) × (h₁ ≡ h₂)
decided_once x q r₁ r₂ h₁ h₂ d₁ d₂ = go (first_refusal (refusals_at x q)) d₁.number d₂.number
  where
    go : (n : ℕ) → r₁.number ≡ n → r₂.number ≡ n → (r₁ ≡ r₂) × (h₁ ≡ h₂)
    go zero e₁ e₂ =
        let n : r₁.number ≡ r₂.number = e₁ ∙ sym e₂ in
        let e : r₁.expected ≡ r₂.expected = d₁.expects e₁ ∙ sym (d₂.expects e₂) in
        let s : r₁.sent ≡ r₂.sent = d₁.sends e₁ ∙ sym (d₂.sends e₂) in
        (λ i. record { number = n i; expected = e i; sent = s i }, d₁.copy e₁ ∙ sym (d₂.copy e₂))
    go (suc n) e₁ e₂ =
        let f₁ = d₁.refused (λ z. never n (sym e₁ ∙ z)) in
        let f₂ = d₂.refused (λ z. never n (sym e₂ ∙ z)) in
        (f₁.0 ∙ ap refused_plan (e₁ ∙ sym e₂) ∙ sym f₂.0, f₁.1 ∙ sym f₂.1)
      where
        never : (n : ℕ) → suc n ≡ 0 → ⊥
        never n z = omega arith
