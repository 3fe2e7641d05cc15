-- Every step and every post, accepted or not, keeps a state fit and as long as it was. Assumes nothing.
use Prim.Native.Nat.{ℕ, ◌*◌}
use mathlib.Core.Path.{◌≡◌, refl, ◌∙◌, ap}
use mathlib.Core.Bool.{true, ◌&&◌}
use mathlib.Core.List.{List}
use lib.Dec.{eqb}
use lib.ListN.{length}
use borrow.Author.Tests.{eqb-true}
use Rattle.base_words.specs.All.{all}
use Rattle.base_words.specs.Counts.{pools, names}
use Rattle.base_words.proofs.AllLaws.{all_of}
use Rattle.base_words.proofs.PickLaws.{and_true}
use Rattle.base_state.specs.Places.{instances_words, queue_words}
use Rattle.base_state.specs.Instances.{version_of}
use Rattle.base_state.specs.Versions.{is_version}
use Rattle.check_limits.specs.Limits.{table_fits}
use Rattle.meaning.specs.declared.Name.{Name}
use Rattle.meaning.specs.declared.Tuple.{Tuple}
use Rattle.meaning.specs.Messages.{appended, without}
use Rattle.meaning.specs.Queues.{messages_of, sending}
use Rattle.meaning.specs.Refusals.{first_refusal}
use Rattle.meaning.specs.Post.{Posted, post_refusals, post}
use Rattle.meaning.specs.Step.{Outcome, Site, site_of, message_named, sent, refusals, refused, traffic, instances_after, queues_after, step}
use Rattle.step_queues.proofs.SlotLaws.{length_with}
use Rattle.state_fits.specs.Fits.{instances_fit, shared_fits, queue_fits, state_fits}
use Rattle.proof_steps.proofs.Choices.{by_choice}
use Rattle.proof_steps.proofs.OnlyOwn.{length_after}
use Rattle.proof_steps.proofs.QueuesAfter.{by_queues}
use Rattle.proof_steps.proofs.Traffic.{state_own, state_queues}
use Rattle.proof_steps.proofs.MadeAfter.{StartsOnce}
use Rattle.proof_steps.proofs.KeepsFits.{keeps_fits, keeps_version, post_keeps_fits}

-- a state that fits, of the lengths that a state has, made for a version that there is
pub record Fitting (t s q : List ℕ) : Type 0 where
  pub long : length s ≡ instances_words
  pub wide : length q ≡ queue_words * names
  pub fits : state_fits t s q ≡ true
  pub known : is_version (version_of s) ≡ true

length_queues : (x : Site) (q : List ℕ) → length (queues_after x q) ≡ length q
length_queues x q =
    by_queues x q (λ r. length r ≡ length q)
    (λ e. length_with q (message_named x) (without x.given (messages_of q (message_named x))))
    (λ e. length_with q (message_named x) (appended (messages_of q (message_named x)) (sent x).tuple))
    refl

module _ (t s q : List ℕ) (fits : table_fits t ≡ true) (f : Fitting t s q) where
  pub step_keeps_fits : StartsOnce t → (n : Name) → Fitting t (step t s q n).instances (step t s q n).queues
  unfolding step
  step_keeps_fits once n =
      by_choice (λ (o : Outcome). Fitting t o.instances o.queues) (eqb (first_refusal (refusals t s q n)) 0)
      (record { answer = traffic (site_of t s n); instances = instances_after t s n; queues = queues_after (site_of t s n) q })
      (refused (first_refusal (refusals t s q n)) s q)
      (λ e.
      record {
        long = length_after t s n ∙ f.long;
        wide = length_queues (site_of t s n) q ∙ f.wide;
        fits = keeps_fits t s q n fits once f.long f.fits (eqb-true (first_refusal (refusals t s q n)) 0 e) f.wide;
        known = ap is_version (keeps_version t s q n fits once f.long f.fits (eqb-true (first_refusal (refusals t s q n)) 0 e)) ∙ f.known;
      })
      (λ e. f)

  -- and the version as it was
  pub step_keeps_version : StartsOnce t → (n : Name) → version_of (step t s q n).instances ≡ version_of s
  unfolding step
  step_keeps_version once n =
      by_choice (λ (o : Outcome). version_of o.instances ≡ version_of s) (eqb (first_refusal (refusals t s q n)) 0)
      (record { answer = traffic (site_of t s n); instances = instances_after t s n; queues = queues_after (site_of t s n) q })
      (refused (first_refusal (refusals t s q n)) s q)
      (λ e. keeps_version t s q n fits once f.long f.fits (eqb-true (first_refusal (refusals t s q n)) 0 e))
      (λ e. refl)

module _ (t s q : List ℕ) (f : Fitting t s q) (name : ℕ) (g : Tuple) where
  posted_state : first_refusal (post_refusals q name g) ≡ 0 → state_fits t s (sending q name g) ≡ true
  unfolding state_fits
  posted_state e =
      and_true (all (instances_fit t s) pools && shared_fits s) (all (queue_fits (sending q name g)) names) (state_own t s q f.fits)
      (all_of (queue_fits (sending q name g)) names (post_keeps_fits q name g e f.wide (state_queues t s q f.fits)))

  pub post_keeps_state : Fitting t s (post q name g).queues
  unfolding post
  post_keeps_state =
      by_choice (λ (o : Posted). Fitting t s o.queues) (eqb (first_refusal (post_refusals q name g)) 0)
      (record { number = 0; queues = sending q name g })
      (record { number = first_refusal (post_refusals q name g); queues = q })
      (λ e.
      record {
        long = f.long;
        wide = length_with q name (appended (messages_of q name) g) ∙ f.wide;
        known = f.known;
        fits = posted_state (eqb-true (first_refusal (post_refusals q name g)) 0 e);
      })
      (λ e. f)
