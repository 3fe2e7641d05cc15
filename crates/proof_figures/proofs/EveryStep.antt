-- EVERY STEP, accepted or not: records that are what a count over the state gives are that again when its number was followed. Assumes nothing.
use Prim.Native.Nat.{ℕ}
use mathlib.Core.Path.{◌≡◌, refl, ◌∙◌}
use mathlib.Core.Bool.{true}
use mathlib.Core.List.{List}
use lib.Dec.{eqb}
use borrow.Author.Tests.{eqb-true, eq-eqb}
use Rattle.base_words.specs.Pick.{if◌then◌or_else◌}
use Rattle.check_limits.specs.Limits.{table_fits}
use Rattle.meaning.specs.declared.Name.{Name}
use Rattle.meaning.specs.declared.Answer.{Answer}
use Rattle.meaning.specs.declared.Traffic.TheVariants.{Nothing, Consumed, Sent}
use Rattle.meaning.specs.Tuples.{empty}
use Rattle.meaning.specs.Refusals.{first_refusal}
use Rattle.meaning.specs.Step.{Outcome, Site, site_of, pool_named, receives, sends, message_named, template, sent, instances_after, queues_after, traffic, refusals, refused, step}
use Rattle.state_figures.specs.Figures.{counted, updated, followed}
use Rattle.proof_steps.proofs.Choices.{by_choice, chosen, passed}
use Rattle.proof_steps.proofs.EveryStep.{Fitting}
use Rattle.proof_steps.proofs.MadeAfter.{StartsOnce}
use Rattle.proof_figures.proofs.OwnRecord.{updated_is}

-- an accepted step gives 0
pub traffic_zero : (x : Site) → (traffic x).number ≡ 0
unfolding traffic
traffic_zero x =
    by_choice (λ (a : Answer). a.number ≡ 0) (receives x) (record { number = 0; traffic = Consumed; name = message_named x; tuple = (template x).tuple }) _
    (λ e. refl)
    (λ e.
    by_choice (λ (a : Answer). a.number ≡ 0) (sends x) (record { number = 0; traffic = Sent; name = message_named x; tuple = (sent x).tuple })
    (record { number = 0; traffic = Nothing; name = 0; tuple = empty }) (λ f. refl) (λ f. refl))

pub followed-counted : (t s q : List ℕ) (n : Name) → table_fits t ≡ true → StartsOnce t → Fitting t s q
    → followed (step t s q n).answer.number (counted t s) (step t s q n).instances (pool_named t n) n.instance ≡ counted t (step t s q n).instances
unfolding step followed
followed-counted t s q n fits once f =
    by_choice (λ (o : Outcome). followed o.answer.number (counted t s) o.instances (pool_named t n) n.instance ≡ counted t o.instances) (eqb (first_refusal (refusals t s q n)) 0)
    (record { answer = traffic (site_of t s n); instances = instances_after t s n; queues = queues_after (site_of t s n) q })
    (refused (first_refusal (refusals t s q n)) s q)
    (λ e.
    chosen (eqb (traffic (site_of t s n)).number 0) (updated (counted t s) (instances_after t s n) (pool_named t n) n.instance) (counted t s) (eq-eqb (traffic (site_of t s n)).number 0 (traffic_zero (site_of t s n)))
    ∙ updated_is t s q n fits once f.long f.fits (eqb-true (first_refusal (refusals t s q n)) 0 e))
    (λ e. passed (eqb (first_refusal (refusals t s q n)) 0) (updated (counted t s) s (pool_named t n) n.instance) (counted t s) e)
