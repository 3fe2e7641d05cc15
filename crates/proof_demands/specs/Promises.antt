-- What the promise of each public call says of r, which it returns, of y, which it leaves of the words or bytes lent to it, and of ys, which it leaves of the desk's records: the very promises of the
-- code (proofs/Promises.antt).
use Rattle.std.specs.Prelude.{ℕ, ◌≡◌, List}
use Rattle.meaning.specs.declared.Name.{Name}
use Rattle.meaning.specs.declared.Answer.{Answer}
use Rattle.meaning.specs.declared.Tuple.{Tuple}
use Rattle.step_list.specs.declared.Listed.{Listed}
use Rattle.text_read.specs.declared.Reading.{Reading}
use Rattle.text_read.specs.Notation.{ReadInto, read_into}
use Rattle.draw_read.specs.Drawings.{draw_into}
use Rattle.draw_diagnose.specs.declared.Diagnosis.{Diagnosis}
use Rattle.draw_diagnose.specs.Diagnosis.{diagnosed}
use Rattle.engine.specs.declared.Verdict.{Verdict}
use Rattle.engine.specs.declared.Ran.{Ran}
use Rattle.engine.specs.declared.Written.{Written}
use Rattle.step_poll.specs.declared.Polled.{Polled}
use Rattle.step_poll.specs.Poll.{Polling}
use Rattle.log_judge.specs.declared.Judged.{Judged}
use Rattle.log_repair.specs.declared.Repaired.{Repaired}
use Rattle.log_repair.specs.Repair.{Repair, repaired_to}
use Rattle.state_figures.specs.Figures.{Figured}
use Rattle.engine.specs.Calls.{polled_to, judged_to}
use Rattle.engine.specs.Profile.{nested_of}
use Rattle.engine.specs.Engine.{Left, Stepped, RanTo, WrittenTo, verdict_of, freshened, stepped, posted_to, listed_at, ran_to, written_to}
use Rattle.engine.specs.Desk.{AtDesk, stepped_at, ran_at, polled_at, figured_to}
use Rattle.engine.specs.Replay.{Replayed, replayed_to, resumed_to}

abbrev pub Checks : List ℕ → Verdict → Type 0
Checks t r = r ≡ verdict_of t

abbrev pub Freshens : List ℕ → ℕ → List ℕ → ℕ → List ℕ → Type 0
Freshens t v z r y = ◌≡◌ {A = Left} (record { number = r; state = y }) (freshened t v z)

abbrev pub Steps : List ℕ → List ℕ → List (List ℕ) → Name → Answer → List ℕ → List (List ℕ) → Type 0
Steps t z rs n r y ys = ◌≡◌ {A = AtDesk Stepped} (record { done = record { answer = r; state = y }; records = ys }) (stepped_at t z rs n)

abbrev pub Posts : List ℕ → List ℕ → ℕ → Tuple → ℕ → List ℕ → Type 0
Posts t z name g r y = ◌≡◌ {A = Left} (record { number = r; state = y }) (posted_to t z name g)

abbrev pub Lists : List ℕ → List ℕ → ℕ → Listed → Type 0
Lists t z k r = r ≡ listed_at t z k

abbrev pub Runs : List ℕ → List ℕ → List (List ℕ) → ℕ → Ran → List ℕ → List (List ℕ) → Type 0
Runs t z rs limit r y ys =
    ◌≡◌ {A = AtDesk RanTo} (record { done = record { number = r.number; steps = r.steps; left = r.left; state = y }; records = ys }) (ran_at t z rs limit)

abbrev pub Reads : List ℕ → List ℕ → Reading → List ℕ → Type 0
Reads text t r y = ◌≡◌ {A = ReadInto} (record { number = r.number; beside = r.beside; table = y }) (read_into text t)

abbrev pub Draws : List ℕ → List ℕ → Reading → List ℕ → Type 0
Draws text t r y = ◌≡◌ {A = ReadInto} (record { number = r.number; beside = r.beside; table = y }) (draw_into text t)

abbrev pub Diagnoses : List ℕ → Diagnosis → Type 0
Diagnoses text r = r ≡ diagnosed text

abbrev pub Writes : List ℕ → List ℕ → Written → List ℕ → Type 0
Writes t out r y = ◌≡◌ {A = WrittenTo} (record { number = r.number; length = r.length; buffer = y }) (written_to t out)

abbrev pub Polls : List ℕ → List ℕ → List (List ℕ) → List ℕ → ℕ → Polled → List ℕ → List (List ℕ) → Type 0
Polls t z rs w count r y ys =
    ◌≡◌ {A = AtDesk Polling} (record { done = record { number = r.number; accepted = r.accepted; state = y }; records = ys }) (polled_at t z rs w count)

abbrev pub Figures : List ℕ → List ℕ → List (List ℕ) → ℕ → List (List ℕ) → Type 0
Figures t z rs r ys = ◌≡◌ {A = Figured} (record { number = r; records = ys }) (figured_to t z rs)

abbrev pub Judges : List ℕ → ℕ → List ℕ → Judged → Type 0
Judges t v log r = r ≡ judged_to t v log

abbrev pub Replays : List ℕ → ℕ → List ℕ → List ℕ → Judged → List ℕ → Type 0
Replays t v log z r y = ◌≡◌ {A = Replayed} (record { answer = r; state = y }) (replayed_to t v log z)

abbrev pub Resumes : List ℕ → List ℕ → List ℕ → Judged → List ℕ → Type 0
Resumes t z log r y = ◌≡◌ {A = Replayed} (record { answer = r; state = y }) (resumed_to t z log)

abbrev pub Repairs : List ℕ → List ℕ → Repaired → List ℕ → Type 0
Repairs text out r y = ◌≡◌ {A = Repair} (record { number = r.number; length = r.length; kept = r.kept; dropped = r.dropped; buffer = y }) (repaired_to text out)

abbrev pub Nests : List ℕ → Verdict → Type 0
Nests t r = r ≡ nested_of t

-- what a step, a run and a poll are on table and state alone: with records that agree they are that (proofs/AtDesk.antt)
abbrev pub StepsOn : List ℕ → List ℕ → Name → Answer → List ℕ → Type 0
StepsOn t z n r y = ◌≡◌ {A = Stepped} (record { answer = r; state = y }) (stepped t z n)

abbrev pub RunsOn : List ℕ → List ℕ → ℕ → Ran → List ℕ → Type 0
RunsOn t z limit r y = ◌≡◌ {A = RanTo} (record { number = r.number; steps = r.steps; left = r.left; state = y }) (ran_to t z limit)

abbrev pub PollsOn : List ℕ → List ℕ → List ℕ → ℕ → Polled → List ℕ → Type 0
PollsOn t z w count r y = ◌≡◌ {A = Polling} (record { number = r.number; accepted = r.accepted; state = y }) (polled_to t z w count)
