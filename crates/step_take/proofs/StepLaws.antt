-- Where the queues hold 0 in what is not in use, a step and a post as the code makes them are those of `meaning`. Assumes nothing.
use Prim.Native.Nat.{ℕ, ◌*◌, ◌<◌}
use mathlib.Core.Path.{◌≡◌, refl, ap}
use mathlib.Core.Bool.{Bool, true, false, ◌&&◌}
use mathlib.Core.List.{List}
use native.Mathlib.Omega.{arith}
use lib.Dec.{eqb, ltb, leb}
use lib.ListN.{length}
use borrow.Author.Tests.{eqb-true, ltb-true}
use Rattle.base_words.specs.Pick.{if◌then◌or_else◌}
use Rattle.base_words.specs.Each.{each}
use Rattle.base_words.specs.Counts.{names, values, messages}
use Rattle.base_words.proofs.AllLaws.{and_left}
use Rattle.base_state.specs.Places.{queue_words}
use Rattle.meaning.specs.declared.Tuple.{Tuple}
use Rattle.meaning.specs.declared.Name.{Name}
use Rattle.meaning.specs.Messages.{has}
use Rattle.meaning.specs.Queues.{messages_of, sending, consuming, Tidy}
use Rattle.meaning.specs.Refusals.{first_refusal}
use Rattle.meaning.specs.Step.{Site, site_of, receives, sends, message_named, sent, queued, space, refusals_at, refusals, instances_after, queues_after, traffic, Outcome, refused, step}
use Rattle.meaning.specs.Post.{Posted, post_refusals, post}
use Rattle.step_queues.specs.Changes.{oldest, extended, removed}
use Rattle.step_queues.proofs.QueueLaws.{count_is, extended_is, removed_is}
use Rattle.step_refusals.proofs.NumberLaws.{numbered, hold_at}
use Rattle.step_take.specs.Settled.{queues_changed, settled, posted}

module _ (q : List ℕ) (long : length q ≡ queue_words * names) (tidy : (m : ℕ) → m < names → Tidy q m) where
  sending_is : (m : ℕ) (g : Tuple) → m < names → ltb (length (messages_of q m)) messages ≡ true → extended q m g ≡ sending q m g
  sending_is m g h e =
      let l : length (messages_of q m) < messages = ltb-true (length (messages_of q m)) messages e in
      extended_is q m long h (tidy m h) g (omega (arith, count_is q m))

  changed_is : (x : Site) → (receives x ≡ true → message_named x < names) → (sends x ≡ true → message_named x < names) → queued x q ≡ true → space x q ≡ true
      → queues_changed x q ≡ queues_after x q
  unfolding queues_changed queues_after queued space if◌then◌or_else◌
  changed_is x f h a b = go (receives x) (sends x) f h a b
    where
      go : (r s : Bool) → (r ≡ true → message_named x < names) → (s ≡ true → message_named x < names) → (if r then has x.given (messages_of q (message_named x)) or_else true) ≡ true
          → (if s then ltb (length (messages_of q (message_named x))) messages or_else true) ≡ true
          → (if r then removed q (message_named x) (oldest q (message_named x) x.given) or_else if s then extended q (message_named x) (sent x).tuple or_else q)
          ≡ (if r then consuming q (message_named x) x.given or_else if s then sending q (message_named x) (sent x).tuple or_else q)
      go true s f h a b = removed_is q (message_named x) long (f refl) (tidy (message_named x) (f refl)) x.given a
      go false true f h a b = sending_is (message_named x) (sent x).tuple (h refl) b
      go false false f h a b = refl

  -- a step that, where it is accepted, receives and sends under the names that there are
  module _ (t s : List ℕ) (n : Name)
      (received : first_refusal (refusals t s q n) ≡ 0 → receives (site_of t s n) ≡ true → message_named (site_of t s n) < names)
      (delivered : first_refusal (refusals t s q n) ≡ 0 → sends (site_of t s n) ≡ true → message_named (site_of t s n) < names) where
    all_numbered : numbered (refusals t s q n) ≡ true
    unfolding numbered each refusals refusals_at
    all_numbered = refl

    queued_there : first_refusal (refusals t s q n) ≡ 0 → queued (site_of t s n) q ≡ true
    unfolding refusals refusals_at
    queued_there e = hold_at (refusals t s q n) all_numbered e 7

    space_there : first_refusal (refusals t s q n) ≡ 0 → space (site_of t s n) q ≡ true
    unfolding refusals refusals_at
    space_there e = hold_at (refusals t s q n) all_numbered e 9

    pub settled_is : settled t s q n ≡ step t s q n
    unfolding settled step if◌then◌or_else◌
    settled_is = go (eqb (first_refusal (refusals t s q n)) 0) (λ k. eqb-true (first_refusal (refusals t s q n)) 0 k) refl
      where
        go : (b : Bool) → (eqb (first_refusal (refusals t s q n)) 0 ≡ true → first_refusal (refusals t s q n) ≡ 0)
            → eqb (first_refusal (refusals t s q n)) 0 ≡ b
            → ◌≡◌ {A = Outcome}
            (if b then record { answer = traffic (site_of t s n); instances = instances_after t s n; queues = queues_changed (site_of t s n) q }
            or_else refused (first_refusal (refusals t s q n)) s q)
            (if b then record { answer = traffic (site_of t s n); instances = instances_after t s n; queues = queues_after (site_of t s n) q }
            or_else refused (first_refusal (refusals t s q n)) s q)
        go true f e =
            ap (λ (w : List ℕ). record { answer = traffic (site_of t s n); instances = instances_after t s n; queues = w })
            (changed_is (site_of t s n) (received (f e)) (delivered (f e)) (queued_there (f e)) (space_there (f e)))
        go false f e = refl

  module _ (name : ℕ) (g : Tuple) where
    post-numbered : numbered (post_refusals q name g) ≡ true
    unfolding numbered each post_refusals
    post-numbered = refl

    known : first_refusal (post_refusals q name g) ≡ 0 → ltb name names && leb g.length values ≡ true
    unfolding post_refusals
    known e = hold_at (post_refusals q name g) post-numbered e 0

    place_there : first_refusal (post_refusals q name g) ≡ 0 → ltb (length (messages_of q name)) messages ≡ true
    unfolding post_refusals
    place_there e = hold_at (post_refusals q name g) post-numbered e 1

    pub posted_is : posted q name g ≡ post q name g
    unfolding posted post if◌then◌or_else◌
    posted_is = go (eqb (first_refusal (post_refusals q name g)) 0) (λ k. eqb-true (first_refusal (post_refusals q name g)) 0 k) refl
      where
        go : (b : Bool) → (eqb (first_refusal (post_refusals q name g)) 0 ≡ true → first_refusal (post_refusals q name g) ≡ 0)
            → eqb (first_refusal (post_refusals q name g)) 0 ≡ b
            → ◌≡◌ {A = Posted}
            (if b then record { number = 0; queues = extended q name g } or_else record { number = first_refusal (post_refusals q name g); queues = q })
            (if b then record { number = 0; queues = sending q name g } or_else record { number = first_refusal (post_refusals q name g); queues = q })
        go true f e =
            ap (λ (w : List ℕ). record { number = 0; queues = w })
            (sending_is name g (ltb-true name names (and_left (ltb name names) (leb g.length values) (known (f e)))) (place_there (f e)))
        go false f e = refl
