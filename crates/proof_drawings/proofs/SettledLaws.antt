-- What is stored in the things of a drawing: a node's kind is the one that its definitions and flows make it, and a sequence flow comes to one of the things. Assumes nothing.
use Rattle.std.specs.Prelude.{Option, Some, None}
use Prim.Native.Nat.{ℕ, zero, suc, ◌+◌, ◌≤◌, ◌<◌}
use mathlib.Core.Path.{◌≡◌, ◌∙◌, refl, sym, ap, ap₂, subst}
use mathlib.Core.Bool.{Bool, true, false, cond, ◌&&◌, ◌||◌, false≢true}
use mathlib.Core.List.{List, [], ◌∷◌}
use mathlib.Core.Logic.{◌⊎◌, inl, inr}
use native.Mathlib.Decide.{ℕ_discrete, dec_lt}
use native.Mathlib.Omega.{arith}
use lib.Dec.{eqb, ltb}
use lib.ListN.{length, set, length-set}
use lib.Seq.{get_or-set_same, get_or-set_other}
use borrow.Author.Tests.{eqb-true, eq-eqb, ltb-true}
use Rattle.base_words.specs.Iter.{iter}
use Rattle.base_words.specs.Pick.{if◌then◌or_else◌}
use Rattle.base_words.specs.Seek.{seek}
use Rattle.base_words.specs.Sum.{sum, one_if}
use Rattle.base_words.specs.Text.{bytes}
use Rattle.base_words.specs.Words.{at, part}
use Rattle.base_words.proofs.AllLaws.{and_left}
use Rattle.base_words.proofs.IterLaws.{iter_keeps}
use Rattle.base_words.proofs.SeekLaws.{sought}
use Rattle.base_words.proofs.SumLaws.{sum_ext}
use Rattle.xml_markup.specs.Spans.{local_of, attribute}
use Rattle.draw_things.specs.Things.{room, block_words, source_place, target_place, sort, place, within, source, target, kind, is_node, message_flow, participant, sequence_flow, message_event_definition, terminate_event_definition}
use Rattle.draw_links.specs.Links.{if_is, or_none, meant, named, flow_joined, owned, linked, links}
use Rattle.draw_kinds.specs.declared.Shape.{Shape}
use Rattle.draw_kinds.specs.Counting.{column, within_in, source_in, target_in, is_with, count_with, first_with}
use Rattle.draw_kinds.specs.Roles.{flows_in, flows_out, messages_of, terminates_of, shape_of, kind_by, caught_as, kind_drawn, kind_settled, roles}
use Rattle.proof_drawings.proofs.TermLaws.{either}

pub record Settled (w : List ℕ) (n : ℕ) : Type 0 where
  pub kinds : (k : ℕ) → k < n → is_node (sort w k) ≡ true → kind w k ≡ kind_drawn w n k
  pub targets : (k : ℕ) → k < n → sort w k ≡ sequence_flow → target w k < n

-- COUNTING
seek_ext : (f g : ℕ → Bool) (n : ℕ) → ((k : ℕ) → f k ≡ g k) → seek f n ≡ seek g n
unfolding seek
seek_ext f g zero h = refl
seek_ext f g (suc n) h = rw (seek_ext f g n h, h n)

pub with_sort : (s c v : ℕ) (w : List ℕ) (j : ℕ) → is_with s c v w j ≡ true → sort w j ≡ s
unfolding is_with
with_sort s c v w j h = eqb-true (sort w j) s (and_left (eqb (sort w j) s) (eqb (column c w j) v) h)

flow_node : is_node sequence_flow ≡ false
unfolding is_node
flow_node = refl

-- KINDS: v has the words of w, but for what is stored in nodes among the first n
record Nodes (w v : List ℕ) (n : ℕ) : Type 0 where
  pub sorts : (j : ℕ) → sort v j ≡ sort w j
  pub withins : (j : ℕ) → within v j ≡ within w j
  pub targets : (j : ℕ) → target v j ≡ target w j
  pub sources : (j : ℕ) → (is_node (sort w j) ≡ false) ⊎ (n ≤ j) → source v j ≡ source w j

module _ (w v : List ℕ) (n : ℕ) (same : Nodes w v n) (k : ℕ) where
  to_same : (j : ℕ) → is_with sequence_flow target_in k v j ≡ is_with sequence_flow target_in k w j
  unfolding is_with
  to_same j = ap₂ (λ a b. eqb a sequence_flow && eqb b k) (same.sorts j) (same.targets j)

  in_same : (s j : ℕ) → is_with s within_in k v j ≡ is_with s within_in k w j
  unfolding is_with
  in_same s j = ap₂ (λ a b. eqb a s && eqb b k) (same.sorts j) (same.withins j)

  from_same : (j : ℕ) → is_with sequence_flow source_in k v j ≡ is_with sequence_flow source_in k w j
  unfolding is_with
  from_same j = ap (λ (a : ℕ). eqb a sequence_flow && eqb (source v j) k) (same.sorts j) ∙ go (eqb (sort w j) sequence_flow) refl
    where
      go : (b : Bool) → eqb (sort w j) sequence_flow ≡ b → b && eqb (source v j) k ≡ b && eqb (source w j) k
      go true e = ap (λ (a : ℕ). eqb a k) (same.sources j (inl (ap is_node (eqb-true (sort w j) sequence_flow e) ∙ flow_node)))
      go false e = refl

  shape_same : shape_of v n k ≡ shape_of w n k
  unfolding shape_of flows_in flows_out messages_of terminates_of count_with
  shape_same =
      let i = sum_ext _ _ n (λ j l. ap one_if (to_same j)) in
      let o = sum_ext _ _ n (λ j l. ap one_if (from_same j)) in
      let m = sum_ext _ _ n (λ j l. ap one_if (in_same message_event_definition j)) in
      let e = sum_ext _ _ n (λ j l. ap one_if (in_same terminate_event_definition j)) in
      λ z. record { ins = i z; outs = o z; messages = m z; terminates = e z }

  caught_same : caught_as v n k ≡ caught_as w n k
  unfolding caught_as first_with
  caught_same =
      let f = seek_ext _ _ n to_same in
      let s = ap (source v) f ∙ same.sources (seek (is_with sequence_flow target_in k w) n) (its (dec_lt (seek (is_with sequence_flow target_in k w) n) n)) in
      rw (same.sorts (source v (seek (is_with sequence_flow target_in k v) n)), s)
    where
      its : Dec (seek (is_with sequence_flow target_in k w) n < n) → (is_node (sort w (seek (is_with sequence_flow target_in k w) n)) ≡ false) ⊎ (n ≤ seek (is_with sequence_flow target_in k w) n)
      its (yes l) =
          inl (ap is_node (with_sort sequence_flow target_in k w (seek (is_with sequence_flow target_in k w) n) ((sought (is_with sequence_flow target_in k w) n).1 l)) ∙ flow_node)
      its (no l) = inr (omega (arith, l))

  drawn_same : kind_drawn v n k ≡ kind_drawn w n k
  unfolding kind_drawn
  drawn_same = rw (same.sorts k, caught_same, shape_same)

record After (w v : List ℕ) (n m : ℕ) : Type 0 where
  pub long : length v ≡ length w
  pub same : Nodes w v n
  pub done : (k : ℕ) → k < m → is_node (sort w k) ≡ true → kind v k ≡ kind_drawn w n k

module _ (w : List ℕ) (n : ℕ) (long : length w ≡ block_words) (few : n ≤ room) where
  next : (v : List ℕ) (m : ℕ) → m < n → After w v n m → After w (kind_settled n m v) n (suc m)
  unfolding kind_settled
  next v m l a = go (is_node (sort v m)) refl
    where
      again : is_node (sort w m) ≡ is_node (sort v m)
      again = ap is_node (sym (a.same.sorts m))

      go : (b : Bool) → is_node (sort v m) ≡ b → After w (if b then set v (source_place m) (kind_drawn v n m) or_else v) n (suc m)
      go false e =
          unfold if◌then◌or_else◌ in
          record { long = a.long; same = a.same; done = λ k h s. let d = not_this k s in a.done k (omega (arith, h, d)) s }
        where
          not_this : (k : ℕ) → is_node (sort w k) ≡ true → k ≡ m → ⊥
          not_this k s q = false≢true (sym e ∙ sym again ∙ ap (λ (j : ℕ). is_node (sort w j)) (sym q) ∙ s)
      go true e =
          unfold if◌then◌or_else◌ in
          record {
            long = length-set v (source_place m) _ ∙ a.long;
            same =
                record {
                  sorts = λ j. get_or-set_other v (source_place m) _ _ 0 (λ q. omega (arith, q)) ∙ a.same.sorts j;
                  withins = λ j. get_or-set_other v (source_place m) _ _ 0 (λ q. omega (arith, q)) ∙ a.same.withins j;
                  targets = λ j. get_or-set_other v (source_place m) _ _ 0 (λ q. omega (arith, q)) ∙ a.same.targets j;
                  sources = λ j h. get_or-set_other v (source_place m) (source_place j) _ 0 (apart j h) ∙ a.same.sources j h;
                };
            done = λ k h s. stored k h s (ℕ_discrete k m);
          }
        where
          apart : (j : ℕ) → (is_node (sort w j) ≡ false) ⊎ (n ≤ j) → source_place j ≡ source_place m → ⊥
          apart j (inl h) q = let r : j ≡ m = omega (arith, q) in false≢true (sym h ∙ ap (λ (i : ℕ). is_node (sort w i)) r ∙ again ∙ e)
          apart j (inr h) q = omega (arith, q, h, l)

          stored : (k : ℕ) → k < suc m → is_node (sort w k) ≡ true → Dec (k ≡ m) → kind (set v (source_place m) (kind_drawn v n m)) k ≡ kind_drawn w n k
          stored k h s (yes q) =
              ap (kind (set v (source_place m) (kind_drawn v n m))) q
              ∙ get_or-set_same v (source_place m) (kind_drawn v n m) 0 (omega (arith, l, few, long, a.long))
              ∙ drawn_same w v n a.same m
              ∙ ap (kind_drawn w n) (sym q)
          stored k h s (no q) =
              get_or-set_other v (source_place m) (source_place k) _ 0 (λ r. omega (arith, r, q)) ∙ a.done k (omega (arith, h, q)) s

  after : (m : ℕ) → m ≤ n → After w (iter (kind_settled n) w m) n m
  unfolding iter
  after zero l =
      record { long = refl; same = record { sorts = λ j. refl; withins = λ j. refl; targets = λ j. refl; sources = λ j h. refl }; done = λ k h s. absurd (omega (arith, h)) }
  after (suc m) l = next (iter (kind_settled n) w m) m (omega (arith, l)) (after m (omega (arith, l)))

  roles_settled : ((k : ℕ) → k < n → sort w k ≡ sequence_flow → target w k < n) → Settled (roles n w) n
  unfolding roles
  roles_settled ends =
      let a = after n (omega arith) in
      record {
        kinds = λ k l h. a.done k l (ap is_node (sym (a.same.sorts k)) ∙ h) ∙ sym (drawn_same w (iter (kind_settled n) w n) n a.same k);
        targets = λ k l h. let e = a.same.targets k in let q = ends k l (sym (a.same.sorts k) ∙ h) in omega (arith, e, q);
      }

-- ENDS
set_low : (x : List ℕ) (i v n : ℕ) → v < n → at (set x i v) i < n
set_low [] i v n h = omega (arith, h)
set_low (x ∷ xs) zero v n h = h
set_low (x ∷ xs) (suc i) v n h = set_low xs i v n h

named_low : (t w : List ℕ) (n k : ℕ) (name : List ℕ) → 0 < n → named t w n k name < n
unfolding named
named_low t w n k name h = go (attribute t (place w k) name)
  where
    low : (j : ℕ) (b : Bool) → ltb j n ≡ b → (if b then j or_else 0) < n
    low j true e = unfold if◌then◌or_else◌ in ltb-true j n e
    low j false e = unfold if◌then◌or_else◌ in h

    go : (a : Option (ℕ × ℕ)) → if_is a (λ from to. meant t w n k (local_of (part t from to))) 0 < n
    go (Some (from, to)) = unfold if_is meant or_none in low _ _ refl
    go None = unfold if_is in h

record Linked (w : List ℕ) (n m : ℕ) : Type 0 where
  pub long : length w ≡ block_words
  pub low : (k : ℕ) → k < m → sort w k ≡ sequence_flow → target w k < n

module _ (t : List ℕ) (n : ℕ) where
  link : (w : List ℕ) (m : ℕ) → m < n → Linked w n m → Linked (linked t n m w) n (suc m)
  unfolding linked flow_joined owned
  link w m l a = go (eqb (sort w m) sequence_flow) refl
    where
      more : (v : List ℕ) → length v ≡ length w → ((j : ℕ) → sort v j ≡ sort w j) → ((j : ℕ) → (j ≡ m → ⊥) → target v j ≡ target w j) → (sort w m ≡ sequence_flow → target v m < n) → Linked v n (suc m)
      more v e s o p = record { long = e ∙ a.long; low = λ k h q. at_k k h (sym (s k) ∙ q) (ℕ_discrete k m) }
        where
          at_k : (k : ℕ) → k < suc m → sort w k ≡ sequence_flow → Dec (k ≡ m) → target v k < n
          at_k k h q (yes r) = subst (λ (j : ℕ). target v j < n) (sym r) (p (ap (sort w) (sym r) ∙ q))
          at_k k h q (no r) = let z = o k r in omega (arith, z, a.low k (omega (arith, h, r)) q)

      source_only : (u : ℕ) → (sort w m ≡ sequence_flow → ⊥) → Linked (set w (source_place m) u) n (suc m)
      source_only u no_flow =
          more _ (length-set w (source_place m) u) (λ j. get_or-set_other w (source_place m) _ u 0 (λ q. omega (arith, q))) (λ j r. get_or-set_other w (source_place m) _ u 0 (λ q. omega (arith, q)))
          (λ q. absurd (no_flow q))

      both : (u v : ℕ) → v < n → Linked (set (set w (source_place m) u) (target_place m) v) n (suc m)
      both u v h =
          let x : List ℕ = set w (source_place m) u in
          more _ (length-set x (target_place m) v ∙ length-set w (source_place m) u)
          (λ j. get_or-set_other x (target_place m) _ v 0 (λ q. omega (arith, q)) ∙ get_or-set_other w (source_place m) _ u 0 (λ q. omega (arith, q)))
          (λ j r. get_or-set_other x (target_place m) _ v 0 (λ q. omega (arith, q, r)) ∙ get_or-set_other w (source_place m) _ u 0 (λ q. omega (arith, q)))
          (λ q. set_low x (target_place m) v n h)

      none : (sort w m ≡ sequence_flow → ⊥) → Linked w n (suc m)
      none no_flow = more w refl (λ j. refl) (λ j r. refl) (λ q. absurd (no_flow q))

      joins : Linked (set (set w (source_place m) (named t w n m (bytes "sourceRef"))) (target_place m) (named t w n m (bytes "targetRef"))) n (suc m)
      joins = both _ _ (named_low t w n m _ (omega (arith, l)))

      go : (b : Bool) → eqb (sort w m) sequence_flow ≡ b → Linked (if b || eqb (sort w m) message_flow then set (set w (source_place m) (named t w n m (bytes "sourceRef"))) (target_place m) (named t w n m (bytes "targetRef")) or_else if eqb (sort w m) participant then set w (source_place m) (named t w n m (bytes "processRef")) or_else w) n (suc m)
      go true e = unfold if◌then◌or_else◌ in joins
      go false e =
          let no_flow : sort w m ≡ sequence_flow → ⊥ = λ q. false≢true (sym e ∙ eq-eqb (sort w m) sequence_flow q) in
          either (λ v. Linked v n (suc m)) (eqb (sort w m) message_flow) _ _ joins (either (λ v. Linked v n (suc m)) _ _ _ (source_only _ no_flow) (none no_flow))

  linked_to : (w : List ℕ) (m : ℕ) → m ≤ n → length w ≡ block_words → Linked (iter (linked t n) w m) n m
  unfolding iter
  linked_to w zero l h = record { long = h; low = λ k r. absurd (omega (arith, r)) }
  linked_to w (suc m) l h = link (iter (linked t n) w m) m (omega (arith, l)) (linked_to w m (omega (arith, l)) h)

  -- THE LAW
  pub settled_things : (w : List ℕ) → length w ≡ block_words → n ≤ room → Settled (roles n (links t n w)) n
  unfolding links
  settled_things w long few = let a = linked_to w n (omega arith) long in roles_settled (iter (linked t n) w n) n a.long few a.low
