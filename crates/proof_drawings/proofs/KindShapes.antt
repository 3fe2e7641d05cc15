-- What the kind of a node says of its sort and its flows: they are as many as the kind's row has entries and exits, and a task is drawn as one. Assumes nothing.
use Prim.Native.Nat.{ℕ, ◌+◌, ◌≤◌, ◌<◌}
use mathlib.Core.Path.{◌≡◌, ◌∙◌, refl, sym, ap, subst}
use mathlib.Core.Bool.{Bool, true, false, ◌&&◌, false≢true}
use mathlib.Core.List.{List}
use mathlib.Core.Logic.{◌⊎◌, inl, inr}
use native.Mathlib.Omega.{arith}
use lib.Dec.{eqb, leb}
use borrow.Author.Tests.{eqb-true, eqb-false, leb-true, le-leb}
use Rattle.base_words.specs.Counts.{branches}
use Rattle.base_words.specs.Pick.{if◌then◌or_else◌}
use Rattle.base_words.specs.Sum.{one_if}
use Rattle.base_words.proofs.AllLaws.{and_left, and_right}
use Rattle.base_words.proofs.PickLaws.{and_true}
use Rattle.base_kinds.specs.Kinds as kinds
use Rattle.base_kinds.specs.Kinds.{kind_of, one, many}
use Rattle.check_limits.specs.Limits.{count_fits}
use Rattle.draw_things.specs.Things.{sort, start_event, end_event, intermediate_catch_event, intermediate_throw_event, task, send_task, receive_task, parallel_gateway, exclusive_gateway, branch}
use Rattle.draw_kinds.specs.declared.Shape.{Shape}
use Rattle.draw_kinds.specs.Roles.{flows, when, start_drawn, end_drawn, intermediate, activity, splits, joins, gateway, kind_by, caught_as, kind_drawn, shape_of, flows_in, flows_out}
use Rattle.proof_drawings.proofs.TermLaws.{either}

-- kind c of a node of sort s with i flows in and o out
pub record Drawable (c s i o : ℕ) : Type 0 where
  pub low : 0 < c
  pub high : c < 16
  pub entries : i ≤ branches → count_fits (kind_of c).entries (one_if (eqb c kinds.start) + i) ≡ true
  pub exits : o ≤ branches → count_fits (kind_of c).exits o ≡ true
  pub tasks : eqb (kind_of c).task one ≡ (leb task s && leb s receive_task)
  pub first : eqb c kinds.start ≡ true → i ≡ 0

pub by_test : {A : Type 0} (P : A → Type 0) (b : Bool) (x y : A) → (b ≡ true → P x) → (b ≡ false → P y) → P (if b then x or_else y)
unfolding if◌then◌or_else◌
by_test P true x y f g = f refl
by_test P false x y f g = g refl

no_task : (s : ℕ) → (s ≡ task → ⊥) → (s ≡ send_task → ⊥) → (s ≡ receive_task → ⊥) → false ≡ (leb task s && leb s receive_task)
no_task s p q r = go (leb task s) (leb s receive_task) refl refl
  where
    go : (a b : Bool) → leb task s ≡ a → leb s receive_task ≡ b → false ≡ (a && b)
    go true true e f = absurd (let l = leb-true task s e in let u = leb-true s receive_task f in let m : 17 ≤ s = omega (arith, l, p) in let n : 18 ≤ s = omega (arith, m, q) in omega (arith, n, u, r))
    go true false e f = refl
    go false b e f = refl

module _ (s : ℕ) (d : Shape) where
  abbrev Right : ℕ → Type 0
  Right c = (c ≡ 0 → ⊥) → (c ≡ branch → ⊥) → Drawable c s d.ins d.outs

  abbrev Tasked : Bool → Type 0
  Tasked b = b ≡ (leb task s && leb s receive_task)

  of_sort_lem : (v : ℕ) → s ≡ v → Tasked (leb task v && leb v receive_task)
  of_sort_lem v e = sym (ap (λ (u : ℕ). leb task u && leb u receive_task) e)

  none : Right 0
  none a b = absurd (a refl)

  when_right : (b : Bool) (c : ℕ) → (b ≡ true → Right c) → Right (when b c)
  unfolding when
  when_right b c f = by_test Right b c 0 f (λ e. none)

  flows_are : (i o : ℕ) → flows i o d ≡ true → (d.ins ≡ i) × (d.outs ≡ o)
  unfolding flows
  flows_are i o h = (eqb-true d.ins i (and_left (eqb d.ins i) (eqb d.outs o) h), eqb-true d.outs o (and_right (eqb d.ins i) (eqb d.outs o) h))

  -- so many flows, as its row says
  fixed : (c i o : ℕ) → 0 < c → c < 16 → flows i o d ≡ true → count_fits (kind_of c).entries (one_if (eqb c kinds.start) + i) ≡ true → count_fits (kind_of c).exits o ≡ true
      → Tasked (eqb (kind_of c).task one) → (eqb c kinds.start ≡ true → i ≡ 0) → Right c
  fixed c i o l u h ins outs t f a b =
      let e = flows_are i o h in
      record {
        low = l;
        high = u;
        entries = λ q. ap (λ (v : ℕ). count_fits (kind_of c).entries (one_if (eqb c kinds.start) + v)) e.0 ∙ ins;
        exits = λ q. ap (count_fits (kind_of c).exits) e.1 ∙ outs;
        tasks = t;
        first = λ q. e.0 ∙ f q;
      }

  -- a kind that is no start
  other : (c i o : ℕ) → 0 < c → c < 16 → flows i o d ≡ true → count_fits (kind_of c).entries (one_if (eqb c kinds.start) + i) ≡ true → count_fits (kind_of c).exits o ≡ true
      → Tasked (eqb (kind_of c).task one) → eqb c kinds.start ≡ false → Right c
  other c i o l u h ins outs t n = fixed c i o l u h ins outs t (λ q. absurd (false≢true (sym n ∙ q)))

  -- the fifteen kinds but for gateways
  start_leaf : s ≡ start_event → flows 0 1 d ≡ true → Right kinds.start × Right kinds.start_rcv
  unfolding kind_of count_fits if◌then◌or_else◌
  start_leaf e h = (
    fixed kinds.start 0 1 (omega arith) (omega arith) h refl refl (of_sort_lem start_event e) (λ r. refl),
    other kinds.start_rcv 0 1 (omega arith) (omega arith) h refl refl (of_sort_lem start_event e) refl,
  )

  end_leaf : s ≡ end_event → flows 1 0 d ≡ true → Right kinds.end × (Right kinds.end_snd × Right kinds.terminate)
  unfolding kind_of count_fits if◌then◌or_else◌
  end_leaf e h = (
    other kinds.end 1 0 (omega arith) (omega arith) h refl refl (of_sort_lem end_event e) refl,
    (
      other kinds.end_snd 1 0 (omega arith) (omega arith) h refl refl (of_sort_lem end_event e) refl,
      other kinds.terminate 1 0 (omega arith) (omega arith) h refl refl (of_sort_lem end_event e) refl,
    ),
  )

  catch_leaf : s ≡ intermediate_catch_event → flows 1 1 d ≡ true → Right kinds.inter_rcv
  unfolding kind_of count_fits if◌then◌or_else◌
  catch_leaf e h = other kinds.inter_rcv 1 1 (omega arith) (omega arith) h refl refl (of_sort_lem intermediate_catch_event e) refl

  start_right : s ≡ start_event → Right (start_drawn d)
  unfolding start_drawn
  start_right e = when_right (flows 0 1 d) _ (λ h. let k = start_leaf e h in either Right _ _ _ k.0 (when_right _ _ (λ r. k.1)))

  end_right : s ≡ end_event → Right (end_drawn d)
  unfolding end_drawn
  end_right e = when_right (flows 1 0 d) _ (λ h. let k = end_leaf e h in either Right _ _ _ k.0 (either Right _ _ _ k.1.0 (when_right _ _ (λ z. k.1.1))))

  catch_right : (caught : ℕ) → s ≡ intermediate_catch_event → (caught ≡ branch) ⊎ (caught ≡ kinds.inter_rcv) → Right (intermediate caught d)
  unfolding intermediate
  catch_right caught e h = when_right (flows 1 1 d) _ (λ f. when_right _ caught (λ q. go h f))
    where
      go : (caught ≡ branch) ⊎ (caught ≡ kinds.inter_rcv) → flows 1 1 d ≡ true → Right caught
      go (inl q) f = λ a b. absurd (b q)
      go (inr q) f = subst Right (sym q) (catch_leaf e f)

  throw_right : s ≡ intermediate_throw_event → Right (intermediate kinds.inter_snd d)
  unfolding intermediate kind_of count_fits if◌then◌or_else◌
  throw_right e = when_right (flows 1 1 d) _ (λ f. when_right _ _ (λ q. other kinds.inter_snd 1 1 (omega arith) (omega arith) f refl refl (of_sort_lem intermediate_throw_event e) refl))

  task_right : s ≡ task → Right (activity kinds.task d)
  unfolding activity kind_of count_fits if◌then◌or_else◌
  task_right e = when_right (flows 1 1 d) _ (λ f. other kinds.task 1 1 (omega arith) (omega arith) f refl refl (of_sort_lem task e) refl)

  send_right : s ≡ send_task → Right (activity kinds.task_snd d)
  unfolding activity kind_of count_fits if◌then◌or_else◌
  send_right e = when_right (flows 1 1 d) _ (λ f. other kinds.task_snd 1 1 (omega arith) (omega arith) f refl refl (of_sort_lem send_task e) refl)

  receive_right : s ≡ receive_task → Right (activity kinds.task_rcv d)
  unfolding activity kind_of count_fits if◌then◌or_else◌
  receive_right e = when_right (flows 1 1 d) _ (λ f. other kinds.task_rcv 1 1 (omega arith) (omega arith) f refl refl (of_sort_lem receive_task e) refl)

  -- gateways
  module _ (untasked : Tasked false) where
    split_right : (c : ℕ) → 0 < c → c < 16 → splits d ≡ true → (kind_of c).entries ≡ one → (kind_of c).exits ≡ many → eqb (kind_of c).task one ≡ false → eqb c kinds.start ≡ false → Right c
    unfolding splits count_fits if◌then◌or_else◌
    split_right c l u h ins outs t n a b =
        let e = eqb-true d.ins 1 (and_left (eqb d.ins 1) (leb 2 d.outs) h) in
        record {
          low = l;
          high = u;
          entries = λ q. rw (ins, n, e) refl;
          exits = λ q. rw outs (and_true (leb 2 d.outs) (leb d.outs branches) (and_right (eqb d.ins 1) (leb 2 d.outs) h) (le-leb d.outs branches q));
          tasks = t ∙ untasked;
          first = λ q. absurd (false≢true (sym n ∙ q));
        }

    join_right : (c : ℕ) → 0 < c → c < 16 → joins d ≡ true → (kind_of c).entries ≡ many → (kind_of c).exits ≡ one → eqb (kind_of c).task one ≡ false → eqb c kinds.start ≡ false → Right c
    unfolding joins count_fits if◌then◌or_else◌
    join_right c l u h ins outs t n a b =
        let e = eqb-true d.outs 1 (and_right (leb 2 d.ins) (eqb d.outs 1) h) in
        record {
          low = l;
          high = u;
          entries = λ q. rw (ins, n) (and_true (leb 2 (0 + d.ins)) (leb (0 + d.ins) branches) (le-leb 2 (0 + d.ins) (let m = leb-true 2 d.ins (and_left (leb 2 d.ins) (eqb d.outs 1) h) in omega (arith, m))) (le-leb (0 + d.ins) branches (omega (arith, q))));
          exits = λ q. rw (outs, e) refl;
          tasks = t ∙ untasked;
          first = λ q. absurd (false≢true (sym n ∙ q));
        }

    parallel_right : Right (gateway kinds.and_split kinds.and_join d)
    unfolding gateway kind_of
    parallel_right = by_test Right (splits d) _ _ (λ h. split_right kinds.and_split (omega arith) (omega arith) h refl refl refl refl) (λ e. when_right (joins d) _ (λ h. join_right kinds.and_join (omega arith) (omega arith) h refl refl refl refl))

    exclusive_right : Right (gateway kinds.xor_split kinds.xor_join d)
    unfolding gateway kind_of
    exclusive_right = by_test Right (splits d) _ _ (λ h. split_right kinds.xor_split (omega arith) (omega arith) h refl refl refl refl) (λ e. when_right (joins d) _ (λ h. join_right kinds.xor_join (omega arith) (omega arith) h refl refl refl refl))

    event_right : Right (gateway kinds.event_based 0 d)
    unfolding gateway kind_of
    event_right = by_test Right (splits d) _ _ (λ h. split_right kinds.event_based (omega arith) (omega arith) h refl refl refl refl) (λ e. when_right (joins d) 0 (λ h. none))

  kind_right : (caught : ℕ) → (caught ≡ branch) ⊎ (caught ≡ kinds.inter_rcv) → Right (kind_by s caught d)
  unfolding kind_by
  kind_right caught c =
      by_test Right _ _ _ (λ e. start_right (eqb-true s start_event e))
      (λ a. by_test Right _ _ _ (λ e. end_right (eqb-true s end_event e))
      (λ b. by_test Right _ _ _ (λ e. catch_right caught (eqb-true s intermediate_catch_event e) c)
      (λ f. by_test Right _ _ _ (λ e. throw_right (eqb-true s intermediate_throw_event e))
      (λ g. by_test Right _ _ _ (λ e. task_right (eqb-true s task e))
      (λ p. by_test Right _ _ _ (λ e. send_right (eqb-true s send_task e))
      (λ q. by_test Right _ _ _ (λ e. receive_right (eqb-true s receive_task e))
      (λ r. let u = no_task s (eqb-false s task p) (eqb-false s send_task q) (eqb-false s receive_task r) in
      by_test Right _ _ _ (λ e. parallel_right u) (λ h. by_test Right _ _ _ (λ e. exclusive_right u) (λ i. event_right u)))))))))

-- THE LAW
pub drawn_right : (w : List ℕ) (n k : ℕ) → (kind_drawn w n k ≡ 0 → ⊥) → (kind_drawn w n k ≡ branch → ⊥) → Drawable (kind_drawn w n k) (sort w k) (flows_in w n k) (flows_out w n k)
unfolding kind_drawn shape_of caught_as
drawn_right w n k = kind_right (sort w k) (shape_of w n k) (caught_as w n k) (either (λ (v : ℕ). (v ≡ branch) ⊎ (v ≡ kinds.inter_rcv)) _ _ _ (inl refl) (inr refl))

-- a branch has a flow out
abbrev Out : Shape → ℕ → Type 0
Out d c = c ≡ branch → d.outs ≡ 1

pub branch_out : (w : List ℕ) (n k : ℕ) → kind_drawn w n k ≡ branch → flows_out w n k ≡ 1
unfolding kind_drawn shape_of
branch_out w n k e = out (sort w k) (caught_as w n k) (shape_of w n k) e
  where
    no : (d : Shape) (c : ℕ) → eqb c branch ≡ false → Out d c
    no d c n e = absurd (eqb-false c branch n e)

    out : (s caught : ℕ) (d : Shape) → Out d (kind_by s caught d)
    out s caught d =
        unfold kind_by start_drawn end_drawn intermediate activity gateway when flows in
        either (Out d) _ _ _ (either (Out d) _ _ _ (either (Out d) _ _ _ (no d _ refl) (either (Out d) _ _ _ (no d _ refl) (no d _ refl))) (no d _ refl))
        (either (Out d) _ _ _ (either (Out d) _ _ _ (either (Out d) _ _ _ (no d _ refl) (either (Out d) _ _ _ (no d _ refl) (either (Out d) _ _ _ (no d _ refl) (no d _ refl)))) (no d _ refl))
        (either (Out d) _ _ _ (by_test (Out d) _ _ _ (λ h q. eqb-true d.outs 1 (and_right (eqb d.ins 1) (eqb d.outs 1) h)) (λ h. no d _ refl))
        (either (Out d) _ _ _ (either (Out d) _ _ _ (either (Out d) _ _ _ (no d _ refl) (no d _ refl)) (no d _ refl))
        (either (Out d) _ _ _ (either (Out d) _ _ _ (no d _ refl) (no d _ refl))
        (either (Out d) _ _ _ (either (Out d) _ _ _ (no d _ refl) (no d _ refl))
        (either (Out d) _ _ _ (either (Out d) _ _ _ (no d _ refl) (no d _ refl))
        (either (Out d) _ _ _ (either (Out d) _ _ _ (no d _ refl) (either (Out d) _ _ _ (no d _ refl) (no d _ refl)))
        (either (Out d) _ _ _ (either (Out d) _ _ _ (no d _ refl) (either (Out d) _ _ _ (no d _ refl) (no d _ refl)))
        (either (Out d) _ _ _ (no d _ refl) (either (Out d) _ _ _ (no d _ refl) (no d _ refl)))))))))))
