-- NO PUBLIC CALL ASKS ANYTHING OF ITS CALLER beyond the types of what is lent: the contract of each, as the prover takes it from the source, binds no value that a caller would have to find, and what it requires is nothing.
-- Over every model of the logic. Assumes nothing.
use mathlib.Core.Path.{◌≡◌, refl}
use seplogic.Ra.Ura.{Ura}
use base.Logic.{SProp, emp}
use prog.Memory.{Memory}
use prog.Routine.{Routine}
use types.Logic.{Logic}
use contract.Monad.{Fun}
use contract.Lifetimes.{Lfts}
use denote.Signature.{Signature}
use denote.Triple.Entry.{Args}
use denote.Triple.Spec.{Spec}
use Rattle.engine.specs.contracts.check as check
use Rattle.engine.specs.contracts.fresh as fresh
use Rattle.engine.specs.contracts.step as step
use Rattle.engine.specs.contracts.post as post
use Rattle.engine.specs.contracts.list as list
use Rattle.engine.specs.contracts.run as run
use Rattle.engine.specs.contracts.figures as figures
use Rattle.engine.specs.contracts.read as read
use Rattle.engine.specs.contracts.draw as draw
use Rattle.engine.specs.contracts.diagnose as diagnose
use Rattle.engine.specs.contracts.write as write
use Rattle.engine.specs.contracts.poll as poll
use Rattle.engine.specs.contracts.judge as judge
use Rattle.engine.specs.contracts.replay as replay
use Rattle.engine.specs.contracts.resume as resume
use Rattle.engine.specs.contracts.repair as repair
use Rattle.engine.specs.contracts.nested as nested
use Rattle.desk.specs.contracts.step as desk-step
use Rattle.desk.specs.contracts.run as desk-run
use Rattle.desk.specs.contracts.poll as desk-poll
use Rattle.desk.specs.contracts.figures as desk-figures
use Rattle.cuttingvale.specs.contracts.cv_check as cv-check
use Rattle.cuttingvale.specs.contracts.cv_fresh as cv-fresh
use Rattle.cuttingvale.specs.contracts.cv_step as cv-step
use Rattle.cuttingvale.specs.contracts.cv_post as cv-post
use Rattle.cuttingvale.specs.contracts.cv_list as cv-list
use Rattle.cuttingvale.specs.contracts.cv_run as cv-run
use Rattle.cuttingvale.specs.contracts.cv_figures as cv-figures
use Rattle.cuttingvale.specs.contracts.cv_read as cv-read
use Rattle.cuttingvale.specs.contracts.cv_draw as cv-draw
use Rattle.cuttingvale.specs.contracts.cv_diagnose as cv-diagnose
use Rattle.cuttingvale.specs.contracts.cv_write as cv-write
use Rattle.cuttingvale.specs.contracts.cv_poll as cv-poll
use Rattle.cuttingvale.specs.contracts.cv_judge as cv-judge
use Rattle.cuttingvale.specs.contracts.cv_repair as cv-repair
use Rattle.cuttingvale.specs.contracts.cv_nested as cv-nested
use Rattle.cuttingvale.specs.contracts.cv_replay as cv-replay
use Rattle.cuttingvale.specs.contracts.cv_resume as cv-resume
use Rattle.cuttingvale.specs.contracts.cv_log_begin as cv-log-begin
use Rattle.cuttingvale.specs.contracts.cv_log_step as cv-log-step
use Rattle.cuttingvale.specs.contracts.cv_log_post as cv-log-post
use Rattle.cuttingvale.specs.contracts.cv_log_end as cv-log-end
use Rattle.cuttingvale.specs.contracts.version.cv_version as cv-version
use Rattle.cuttingvale.specs.contracts.version.cv_abi_4 as cv-abi-4

module _ {M : Type 1} {𝓤 : Ura M} (𝓛 : Logic 𝓤) (mem : Memory → SProp 𝓤) (run_of : Routine → Fun 𝓤) where
  -- a contract c, at whatever arguments a
  abbrev pub AsksNothing : (S : Signature) → Spec 𝓤 S → Type 2
  AsksNothing S c = (κs : Lfts S.lifetimes) (a : Args S κs) → ((c κs a).ghost ≡ Unit {0}) × ((g : (c κs a).ghost) → (c κs a).requires g ≡ emp 𝓤)

  pub engine_asks_nothing :
      AsksNothing check.signature (check.spec 𝓛 mem run_of)
      × AsksNothing fresh.signature (fresh.spec 𝓛 mem run_of)
      × AsksNothing step.signature (step.spec 𝓛 mem run_of)
      × AsksNothing post.signature (post.spec 𝓛 mem run_of)
      × AsksNothing list.signature (list.spec 𝓛 mem run_of)
      × AsksNothing run.signature (run.spec 𝓛 mem run_of)
      × AsksNothing figures.signature (figures.spec 𝓛 mem run_of)
      × AsksNothing read.signature (read.spec 𝓛 mem run_of)
      × AsksNothing draw.signature (draw.spec 𝓛 mem run_of)
      × AsksNothing diagnose.signature (diagnose.spec 𝓛 mem run_of)
      × AsksNothing write.signature (write.spec 𝓛 mem run_of)
      × AsksNothing poll.signature (poll.spec 𝓛 mem run_of)
      × AsksNothing judge.signature (judge.spec 𝓛 mem run_of)
      × AsksNothing replay.signature (replay.spec 𝓛 mem run_of)
      × AsksNothing resume.signature (resume.spec 𝓛 mem run_of)
      × AsksNothing repair.signature (repair.spec 𝓛 mem run_of)
      × AsksNothing nested.signature (nested.spec 𝓛 mem run_of)
  engine_asks_nothing = (
    λ κs a. (refl, λ g. refl),
    λ κs a. (refl, λ g. refl),
    λ κs a. (refl, λ g. refl),
    λ κs a. (refl, λ g. refl),
    λ κs a. (refl, λ g. refl),
    λ κs a. (refl, λ g. refl),
    λ κs a. (refl, λ g. refl),
    λ κs a. (refl, λ g. refl),
    λ κs a. (refl, λ g. refl),
    λ κs a. (refl, λ g. refl),
    λ κs a. (refl, λ g. refl),
    λ κs a. (refl, λ g. refl),
    λ κs a. (refl, λ g. refl),
    λ κs a. (refl, λ g. refl),
    λ κs a. (refl, λ g. refl),
    λ κs a. (refl, λ g. refl),
    λ κs a. (refl, λ g. refl),
  )

  pub desk_asks_nothing :
      AsksNothing desk-step.signature (desk-step.spec 𝓛 mem run_of)
      × AsksNothing desk-run.signature (desk-run.spec 𝓛 mem run_of)
      × AsksNothing desk-poll.signature (desk-poll.spec 𝓛 mem run_of)
      × AsksNothing desk-figures.signature (desk-figures.spec 𝓛 mem run_of)
  desk_asks_nothing = (
    λ κs a. (refl, λ g. refl),
    λ κs a. (refl, λ g. refl),
    λ κs a. (refl, λ g. refl),
    λ κs a. (refl, λ g. refl),
  )

  pub boundary_asks_nothing :
      AsksNothing cv-check.signature (cv-check.spec 𝓛 mem run_of)
      × AsksNothing cv-fresh.signature (cv-fresh.spec 𝓛 mem run_of)
      × AsksNothing cv-step.signature (cv-step.spec 𝓛 mem run_of)
      × AsksNothing cv-post.signature (cv-post.spec 𝓛 mem run_of)
      × AsksNothing cv-list.signature (cv-list.spec 𝓛 mem run_of)
      × AsksNothing cv-run.signature (cv-run.spec 𝓛 mem run_of)
      × AsksNothing cv-figures.signature (cv-figures.spec 𝓛 mem run_of)
      × AsksNothing cv-read.signature (cv-read.spec 𝓛 mem run_of)
      × AsksNothing cv-draw.signature (cv-draw.spec 𝓛 mem run_of)
      × AsksNothing cv-diagnose.signature (cv-diagnose.spec 𝓛 mem run_of)
      × AsksNothing cv-write.signature (cv-write.spec 𝓛 mem run_of)
      × AsksNothing cv-poll.signature (cv-poll.spec 𝓛 mem run_of)
      × AsksNothing cv-judge.signature (cv-judge.spec 𝓛 mem run_of)
      × AsksNothing cv-repair.signature (cv-repair.spec 𝓛 mem run_of)
      × AsksNothing cv-nested.signature (cv-nested.spec 𝓛 mem run_of)
      × AsksNothing cv-replay.signature (cv-replay.spec 𝓛 mem run_of)
      × AsksNothing cv-resume.signature (cv-resume.spec 𝓛 mem run_of)
      × AsksNothing cv-log-begin.signature (cv-log-begin.spec 𝓛 mem run_of)
      × AsksNothing cv-log-step.signature (cv-log-step.spec 𝓛 mem run_of)
      × AsksNothing cv-log-post.signature (cv-log-post.spec 𝓛 mem run_of)
      × AsksNothing cv-log-end.signature (cv-log-end.spec 𝓛 mem run_of)
      × AsksNothing cv-version.signature (cv-version.spec 𝓛 mem run_of)
      × AsksNothing cv-abi-4.signature (cv-abi-4.spec 𝓛 mem run_of)
  boundary_asks_nothing = (
    λ κs a. (refl, λ g. refl),
    λ κs a. (refl, λ g. refl),
    λ κs a. (refl, λ g. refl),
    λ κs a. (refl, λ g. refl),
    λ κs a. (refl, λ g. refl),
    λ κs a. (refl, λ g. refl),
    λ κs a. (refl, λ g. refl),
    λ κs a. (refl, λ g. refl),
    λ κs a. (refl, λ g. refl),
    λ κs a. (refl, λ g. refl),
    λ κs a. (refl, λ g. refl),
    λ κs a. (refl, λ g. refl),
    λ κs a. (refl, λ g. refl),
    λ κs a. (refl, λ g. refl),
    λ κs a. (refl, λ g. refl),
    λ κs a. (refl, λ g. refl),
    λ κs a. (refl, λ g. refl),
    λ κs a. (refl, λ g. refl),
    λ κs a. (refl, λ g. refl),
    λ κs a. (refl, λ g. refl),
    λ κs a. (refl, λ g. refl),
    λ κs a. (refl, λ g. refl),
    λ κs a. (refl, λ g. refl),
  )
