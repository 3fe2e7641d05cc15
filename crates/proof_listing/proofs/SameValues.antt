-- A step is accepted with equal values too: what is given behind the values is ignored. Assumes nothing.
use Prim.Native.Nat.{ℕ, ◌+◌}
use mathlib.Core.Path.{◌≡◌, refl, sym, ◌∙◌, ap, ap₂}
use mathlib.Core.Bool.{Bool, true, ◌||◌}
use mathlib.Core.List.{List, [], ◌∷◌}
use lib.Dec.{leb}
use Rattle.std.specs.Prelude.{Some}
use Rattle.base_words.specs.Iter.{iter}
use Rattle.base_words.specs.Pick.{if◌then◌or_else◌}
use Rattle.base_words.specs.Words.{at}
use Rattle.base_words.specs.Counts.{values}
use Rattle.base_table.specs.Places.{operand_number, left_place}
use Rattle.base_table.specs.Table.{item_at, message_length}
use Rattle.base_state.specs.Instances.{with_field}
use Rattle.meaning.specs.declared.Tuple.{Tuple}
use Rattle.meaning.specs.declared.Name.{Name}
use Rattle.meaning.specs.declared.Evaluated.{Evaluated}
use Rattle.meaning.specs.Tuples.{same_tuple}
use Rattle.meaning.specs.Messages.{has}
use Rattle.meaning.specs.Queues.{messages_of}
use Rattle.meaning.specs.Expressions.{expression_of}
use Rattle.meaning.specs.Templates.{binds, item_value, evaluated, bind_one, bound}
use Rattle.meaning.specs.Assignments.{Assigned}
use Rattle.meaning.specs.Requirements.{roomy}
use Rattle.meaning.specs.Changes.{expected, received, message_sent, taken}
use Rattle.meaning.specs.Refusals.{first_refusal}
use Rattle.meaning.specs.Step.{Site, site_of, element_named, move_named, exists, receives, template, work, sent, defined, matches, after_taking, message_named, queued, space, refusals}
use Rattle.step_values.proofs.TupleLaws.{same_value, same_sym, same_trans}
use Rattle.step_queues.proofs.MessageLaws.{same_both}
use Rattle.proof_steps.proofs.AcceptedParts.{Accepted, accepted_parts, parts_accepted}

-- TWO TUPLES WITH EQUAL VALUES
module _ (g k : Tuple) (same : same_tuple g k ≡ true) where
  item_same : (el : List ℕ) (b : ℕ) (h : List ℕ) (j : ℕ) → item_value el b h g j ≡ item_value el b h k j
  unfolding item_value
  item_same el b h j =
      ap (λ v. if leb (message_length el b) j then Some 0 or_else if binds el b j then Some v or_else expression_of (item_at el b j) h) (same_value g k same j)

  evaluated_same : (el : List ℕ) (b : ℕ) (h : List ℕ) → evaluated el b h g ≡ evaluated el b h k
  unfolding evaluated
  evaluated_same el b h = rw (item_same el b h 0, item_same el b h 1, item_same el b h 2, item_same el b h 3)

  bind_same : (el : List ℕ) (b j : ℕ) (h : List ℕ) → bind_one el b g j h ≡ bind_one el b k j h
  unfolding bind_one
  bind_same el b j h = ap (λ v. if binds el b j then with_field h (at (item_at el b j) (left_place + operand_number)) v or_else h) (same_value g k same j)

  bound_same : (el : List ℕ) (b : ℕ) (h : List ℕ) → bound el b g h ≡ bound el b k h
  unfolding bound
  bound_same el b h = ap (λ (f : ℕ → List ℕ → List ℕ). iter f h values) (λ i j y. bind_same el b j y i)

  has_same : (ms : List Tuple) → has g ms ≡ has k ms
  unfolding has
  has_same [] = refl
  has_same (x ∷ xs) =
      ap₂ (λ (b c : Bool). if b then true or_else c) (same_sym x g ∙ same_both g k x same ∙ same_sym k x) (has_same xs)

-- THE SAME SITE with equal values
module _ (x : Site) (g : Tuple) (same : same_tuple x.given g ≡ true) where
  abbrev pub y : Site
  y = record { element = x.element; move = x.move; branch = x.branch; given = g; made = x.made; limit = x.limit; instance = x.instance }

  pub template_same : template x ≡ template y
  unfolding template expected
  template_same = rw (evaluated_same x.given g same x.element x.branch x.instance)

  pub work_same : work x ≡ work y
  unfolding work received
  work_same = rw (bound_same x.given g same x.element x.branch x.instance)

  pub sent_same : sent x ≡ sent y
  unfolding sent
  sent_same = ap (λ (w : Assigned). message_sent x.element w.instance x.move x.branch) work_same

  defined_same : defined x ≡ defined y
  unfolding defined
  defined_same = rw (work_same, sent_same)

  taking_same : after_taking x ≡ after_taking y
  unfolding after_taking
  taking_same = ap (λ (w : Assigned). taken x.element x.move x.branch w.instance) work_same

  same_accepted : (q : List ℕ) → Accepted x q → Accepted y q
  unfolding matches queued space
  same_accepted q a =
      record {
        permits = a.permits;
        grants = a.grants;
        templated = sym (ap (λ (v : Evaluated). v.defined) template_same) ∙ a.templated;
        outright = sym (ap (λ (d : Bool). receives x || d) defined_same) ∙ a.outright;
        matched = same_trans (template y).tuple x.given g (sym (ap (λ (v : Evaluated). same_tuple v.tuple x.given) template_same) ∙ a.matched) same;
        worked_out = sym defined_same ∙ a.worked_out;
        waiting =
            ap (λ (b : Bool). if receives x then b or_else true) (sym (has_same x.given g same (messages_of q (message_named x)))) ∙ a.waiting;
        limited = a.limited;
        spacious = a.spacious;
        roomed = sym (ap (λ (h : List ℕ). roomy x.element h x.move x.branch) taking_same) ∙ a.roomed;
      }

-- THE SAME NAME with other values
abbrev pub with_given : Name → Tuple → Name
with_given n g = record { pool = n.pool; instance = n.instance; element = n.element; phase = n.phase; branch = n.branch; given = g }

pub accepted_same : (t s q : List ℕ) (n : Name) (g : Tuple) → same_tuple n.given g ≡ true → first_refusal (refusals t s q n) ≡ 0 → first_refusal (refusals t s q (with_given n g)) ≡ 0
unfolding site_of exists move_named element_named
accepted_same t s q n g same e =
    let a = accepted_parts t s q n e in
    parts_accepted t s q (with_given n g) a.0 (same_accepted (site_of t s n) g same q a.1)
