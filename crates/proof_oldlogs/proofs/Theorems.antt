-- AN OLD LOG STAYS LAWFUL, "while no instance does more than 255 such sends at one element": a log of steps and posts that were accepted in the days of endSnd is judged lawful with the table that its model's text gives now. Assumes nothing.
use Prim.Native.Nat.{ℕ, ◌+◌, ◌≤◌, ◌<◌}
use mathlib.Core.Path.{◌≡◌, refl, sym, ◌∙◌, ap, ap₂, subst}
use mathlib.Core.Bool.{true}
use mathlib.Core.List.{List, [], ◌∷◌, ◌++◌, map}
use mathlib.Core.Logic.{⊎_elim}
use native.Mathlib.Omega.{arith}
use lib.Dec.{eqb}
use lib.ListN.{length, get_or}
use lib.Seq.{get_or-take, take_at, drop_at, length-take-le}
use borrow.Author.Tests.{eqb-true, eq-eqb}
use Rattle.base_words.specs.Counts.{instances, count_most}
use Rattle.base_words.specs.Each.{each, total}
use Rattle.base_words.specs.Pick.{if◌then◌or_else◌}
use Rattle.base_words.specs.Sum.{one_if}
use Rattle.base_words.specs.Words.{at}
use Rattle.base_words.proofs.AllLaws.{and_left, and_right}
use Rattle.base_words.proofs.PickLaws.{and_true}
use Rattle.base_table.specs.Table.{exit_at}
use Rattle.base_state.specs.Places.{token_place, instance_place, instances_words, state_words}
use Rattle.base_state.specs.Instances.{instances_of, queues_of}
use Rattle.base_state.specs.Versions.{is_version}
use Rattle.check_limits.specs.Limits.{table_fits}
use Rattle.check_model.specs.Checks.{Pool, lowest}
use Rattle.check_lowest.specs.Model.{model_of}
use Rattle.meaning.specs.declared.Name.{Name}
use Rattle.meaning.specs.declared.Tuple.{Tuple}
use Rattle.meaning.specs.Refusals.{first_refusal}
use Rattle.meaning.specs.Step.{Outcome, site_of, pool_named, refusals, instances_after, queues_after, traffic, refused, step}
use Rattle.meaning.specs.Post.{post}
use Rattle.state_fits.specs.Fresh.{fresh}
use Rattle.text_ends.specs.Rewriting.{is_end_snd, rewritten, has_room}
use Rattle.text_read.specs.Notation.{ReadInto, model, table_of, read_into}
use Rattle.write_lines.specs.Lines.{step_line}
use Rattle.log_write.specs.Xes.{log_text}
use Rattle.log_text.specs.Logs.{log_most, lines_of}
use Rattle.log_judge.specs.Judge.{lawful}
use Rattle.engine.specs.Engine.{Left, valid, fitting, Stepped, leaving, stepped, posted_to}
use Rattle.engine.specs.Calls.{Act, a_step, a_post, did, all_accepted, Valid, judged_to}
use Rattle.engine.proofs.CallLaws.{lent_fits, asked_good}
use Rattle.engine.proofs.KeepsValid.{did-valid, fresh-valid}
use Rattle.proof_steps.proofs.Choices.{by_test, chosen, passed}
use Rattle.proof_steps.proofs.EveryStep.{Fitting}
use Rattle.proof_roundtrip.proofs.EndModels.{Model}
use Rattle.proof_roundtrip.proofs.Rewritten.{rewritten_fits, rewritten_sound, none_left}
use Rattle.proof_roundtrip.proofs.LowestLaws.{lowest_same}
use Rattle.proof_roundtrip.proofs.ReadPools.{model_fit}
use Rattle.proof_roundtrip.proofs.ReadTables.{table_small, table_fits_lem, blocks_are}
use Rattle.proof_demands.proofs.ReadAndWrite.{Whole, Stays, taken_either}
use Rattle.proof_logs.specs.Told.{line_told, told}
use Rattle.proof_logs.proofs.Traces.{Each, Entry}
use Rattle.proof_logs.proofs.XesReads.{printed_log_reads}
use Rattle.proof_logs.proofs.RunLog.{told_entries}
use Rattle.proof_logs.proofs.OwnLog.{fresh_words, told_log}
use Rattle.proof_replay.specs.Lines.{act_of, acts_of, AllTell}
use Rattle.proof_replay.proofs.Exactly.{lawful_when}
use Rattle.proof_oldlogs.specs.OldLogs.{old_stepped, old_did, old_line, all_old_accepted, old_told, AllOldTell, is_step_of, steps_at, OldHistory, OldLog}
use Rattle.proof_saved.proofs.SavedStates.{fit}
use Rattle.proof_oldlogs.proofs.Pools.{pool_in, els_in, ends_in, has}
use Rattle.proof_oldlogs.proofs.Spots.{all_ended}
use Rattle.proof_oldlogs.proofs.Steps.{Follows, counting, none_refused, traffic_is, queues_are, follows_on, number_named}
use Rattle.proof_oldlogs.proofs.Beginnings.{fresh_same, fresh_blank}

-- what is accepted, by its number
first_none : (k : ℕ) (o w : Outcome) → o.answer.number ≡ k → (if eqb k 0 then w or_else o).answer.number ≡ 0 → k ≡ 0
first_none k o w e h = by_test (eqb k 0) (λ y. eqb-true k 0 y) (λ y. sym e ∙ sym (ap (λ (u : Outcome). u.answer.number) (passed (eqb k 0) w o y)) ∙ h)

module _ (ps : List Pool) (m : Model ps) (room : each has_room ps ≡ true) (sound : lowest ps ≡ 0) where
  abbrev t : List ℕ
  t = table_of ps

  abbrev t' : List ℕ
  t' = table_of (map rewritten ps)

  good : valid t' ≡ true
  unfolding valid
  good =
      let fits : table_fits t' ≡ true = table_fits_lem (map rewritten ps) (rewritten_fits ps m room) (none_left ps m room) in
      and_true (table_fits t') (eqb (lowest (model_of t')) 0) fits
      (eq-eqb (lowest (model_of t')) 0 (sym (lowest_same t' fits) ∙ ap lowest (blocks_are (map rewritten ps) (rewritten_fits ps m room)) ∙ rewritten_sound ps m room sound))

  -- TWO STATES BESIDE EACH OTHER, z of the table as it was and z' of the one that there is
  pub record Beside (c : ℕ → ℕ → ℕ → ℕ) (z z' : List ℕ) : Type 0 where
    pub follows : Follows ps c (instances_of z) (instances_of z')
    pub queues : queues_of z' ≡ queues_of z
    pub fits : Valid t' z'

  abbrev counted : (ℕ → ℕ → ℕ → ℕ) → Act → ℕ → ℕ → ℕ → ℕ
  counted c a p i e = c p i e + one_if (is_step_of (pool_in ps p).number i e a)

  -- what was accepted, what its line says, and the states after it
  pub record On (c : ℕ → ℕ → ℕ → ℕ) (a : Act) (z z' : List ℕ) : Type 0 where
    pub accepted : (did t' a z').number ≡ 0
    pub told : line_told t' a z' ≡ old_line t a z
    pub beside : Beside (counted c a) (old_did t a z).state (did t' a z').state

  module _ (c : ℕ → ℕ → ℕ → ℕ) (z z' : List ℕ) (B : Beside c z z') where
    abbrev s : List ℕ
    s = instances_of z

    abbrev s' : List ℕ
    s' = instances_of z'

    abbrev q : List ℕ
    q = queues_of z

    fit' : Fitting t' s' q
    fit' = subst (Fitting t' s') B.queues (lent_fits t' z' B.fits.long B.fits.fits)

    -- A STEP
    module _ (n : Name) (e : (old_stepped t z n).answer.number ≡ 0)
        (few : (p i k : ℕ) → is_end_snd (get_or (els_in ps p) k []) ≡ true → counted c (a_step n) p i k ≤ count_most) where
      none : first_refusal (refusals t s q n) ≡ 0
      unfolding old_stepped leaving step
      none = first_none (first_refusal (refusals t s q n)) (refused (first_refusal (refusals t s q n)) s q) _ refl e

      little : is_end_snd (get_or (els_in ps (pool_named t n)) n.element []) ≡ true → c (pool_named t n) n.instance n.element < count_most
      unfolding is_step_of
      little is =
          let hits : is_step_of (pool_in ps (pool_named t n)).number n.instance n.element (a_step n) ≡ true =
          and_true _ _ (and_true _ _ (eq-eqb n.pool (pool_in ps (pool_named t n)).number (number_named ps m room good c s s' q B.follows fit' n none)) (eq-eqb n.instance n.instance refl)) (eq-eqb n.element n.element refl) in
          let one : one_if (is_step_of (pool_in ps (pool_named t n)).number n.instance n.element (a_step n)) ≡ 1 = ap one_if hits in
          omega (arith, few (pool_named t n) n.instance n.element is, one)

      none' : first_refusal (refusals t' s' q n) ≡ 0
      none' = none_refused ps m room good c s s' q B.follows fit' n none little

      abbrev u : List ℕ
      u = instances_after t s n

      abbrev u' : List ℕ
      u' = instances_after t' s' n

      abbrev r : List ℕ
      r = queues_after (site_of t s n) q

      was : old_stepped t z n ≡ record { answer = traffic (site_of t s n); state = u ++ r }
      unfolding old_stepped leaving step
      was = ap leaving (chosen {A = Outcome} (eqb (first_refusal (refusals t s q n)) 0) _ _ (eq-eqb (first_refusal (refusals t s q n)) 0 none))

      is : stepped t' z' n ≡ record { answer = traffic (site_of t s n); state = u' ++ r }
      unfolding stepped leaving step
      is =
          chosen {A = Stepped} (fitting t' z') _ _ B.fits.fits
          ∙ ap (λ (w : List ℕ). leaving (step t' s' w n)) B.queues
          ∙ ap leaving (chosen {A = Outcome} (eqb (first_refusal (refusals t' s' q n)) 0) _ _ (eq-eqb (first_refusal (refusals t' s' q n)) 0 none'))
          ∙ (λ j. record { answer = traffic_is ps m room good c s s' q B.follows fit' n none j; state = u' ++ queues_are ps m room good c s s' q B.follows fit' n none j })

      on : Follows ps (counting ps c n) u u'
      on = follows_on ps m room good c s s' q B.follows fit' n none

      pub step_on : On c (a_step n) z z'
      unfolding did old_did line_told old_line
      step_on = record {
        accepted = ap (λ (o : Stepped). o.answer.number) is ∙ sym (ap (λ (o : Stepped). o.answer.number) was) ∙ e;
        told = ap (λ (o : Stepped). step_line n o.answer) is ∙ sym (ap (λ (o : Stepped). step_line n o.answer) was);
        beside = record {
          follows =
              subst (λ (w : List ℕ). Follows ps (counting ps c n) w (instances_of (stepped t' z' n).state)) (sym (ap (λ (o : Stepped). instances_of o.state) was ∙ take_at u r instances_words on.long))
              (subst (Follows ps (counting ps c n) u) (sym (ap (λ (o : Stepped). instances_of o.state) is ∙ take_at u' r instances_words on.long')) on);
          queues =
              ap (λ (o : Stepped). queues_of o.state) is ∙ drop_at u' r instances_words on.long' ∙ sym (ap (λ (o : Stepped). queues_of o.state) was ∙ drop_at u r instances_words on.long);
          fits = unfold did in did-valid t' (a_step n) z' B.fits;
        };
      }

    -- A POST
    module _ (name : ℕ) (g : Tuple) (e : (post q name g).number ≡ 0) where
      posted_is : posted_to t' z' name g ≡ record { number = (post q name g).number; state = s' ++ (post q name g).queues }
      unfolding posted_to
      posted_is =
          chosen {A = Left} (fitting t' z') (record { number = (post (queues_of z') name g).number; state = s' ++ (post (queues_of z') name g).queues }) _ B.fits.fits
          ∙ (λ j. record { number = (post (B.queues j) name g).number; state = s' ++ (post (B.queues j) name g).queues })

      more : Follows ps (counted c (a_post name g)) s s'
      unfolding is_step_of
      more = record {
        long = B.follows.long;
        long' = B.follows.long';
        outside = B.follows.outside;
        inside = B.follows.inside;
        few = λ p i k l h o is. (let w = B.follows.few p i k l h o is in omega (arith, w));
      }

      pub post_on : On c (a_post name g) z z'
      unfolding did old_did line_told old_line
      post_on =
          let r : List ℕ = (post q name g).queues in
          record {
            accepted = ap (λ (o : Left). o.number) posted_is ∙ e;
            told = refl;
            beside = record {
              follows =
                  subst (λ (w : List ℕ). Follows ps (counted c (a_post name g)) w (instances_of (posted_to t' z' name g).state)) (sym (take_at s r instances_words more.long))
                  (subst (Follows ps (counted c (a_post name g)) s) (sym (ap (λ (o : Left). instances_of o.state) posted_is ∙ take_at s' r instances_words more.long')) more);
              queues = ap (λ (o : Left). queues_of o.state) posted_is ∙ drop_at s' r instances_words more.long' ∙ sym (drop_at s r instances_words more.long);
              fits = unfold did in did-valid t' (a_post name g) z' B.fits;
            };
          }

    pub act_on : (a : Act) → (old_did t a z).number ≡ 0 → ((p i k : ℕ) → is_end_snd (get_or (els_in ps p) k []) ≡ true → counted c a p i k ≤ count_most) → On c a z z'
    unfolding old_did
    act_on (a_step n) e few = step_on n e few
    act_on (a_post name g) e few = post_on name g e

  -- CALL BY CALL
  pub acts_on : (acts : List Act) (c : ℕ → ℕ → ℕ → ℕ) (z z' : List ℕ) → Beside c z z' → all_old_accepted t acts z ≡ true
      → ((p i k : ℕ) → is_end_snd (get_or (els_in ps p) k []) ≡ true → c p i k + steps_at (pool_in ps p).number i k acts ≤ count_most)
      → (all_accepted t' acts z' ≡ true) × (told t' acts z' ≡ old_told t acts z)
  unfolding all_old_accepted all_accepted old_told told steps_at total
  acts_on [] c z z' B h few = (refl, refl)
  acts_on (a ∷ rest) c z z' B h few =
      let o = act_on c z z' B a (eqb-true (old_did t a z).number 0 (and_left (eqb (old_did t a z).number 0) (all_old_accepted t rest (old_did t a z).state) h)) (λ p i k is. (let y = few p i k is in omega (arith, y))) in
      let r = acts_on rest (counted c a) (old_did t a z).state (did t' a z').state o.beside (and_right (eqb (old_did t a z).number 0) (all_old_accepted t rest (old_did t a z).state) h) (λ p i k is. (let y = few p i k is in omega (arith, y))) in (
        and_true (eqb (did t' a z').number 0) (all_accepted t' rest (did t' a z').state) (eq-eqb (did t' a z').number 0 o.accepted) r.0,
        ap₂ (λ (w : List ℕ) (ws : List (List ℕ)). w ∷ ws) o.told r.1,
      )

  -- LINE BY LINE
  pub lines_on : (ws : List (List ℕ)) (c : ℕ → ℕ → ℕ → ℕ) (z z' : List ℕ) → Beside c z z' → AllOldTell t ws z
      → ((p i k : ℕ) → is_end_snd (get_or (els_in ps p) k []) ≡ true → c p i k + steps_at (pool_in ps p).number i k (acts_of ws) ≤ count_most) → AllTell t' ws z'
  unfolding AllOldTell AllTell acts_of steps_at total
  lines_on [] c z z' B h few = tt
  lines_on (w ∷ ws) c z z' B h few =
      let o = act_on c z z' B (act_of w) h.0.accepted (λ p i k is. (let y = few p i k is in omega (arith, y))) in (
        record { accepted = o.accepted; printed = λ e. h.0.printed e ∙ sym o.told },
        lines_on ws (counted c (act_of w)) (old_did t (act_of w) z).state (did t' (act_of w) z').state o.beside h.1 (λ p i k is. (let y = few p i k is in omega (arith, y))),
      )

  -- FROM THE FRESH STATES
  module _ (v : ℕ) (known : is_version v ≡ true) where
    fresh_good : Valid t' (fresh t' v)
    fresh_good = fresh-valid t' v (asked_good t' v good known)

    long : length (fresh t v) ≡ state_words
    long = ap length (sym (fresh_same ps m room v)) ∙ fresh_good.long

    pub fresh_beside : Beside (λ p i k. 0) (fresh t v) (fresh t' v)
    fresh_beside = record {
      follows = subst (λ (w : List ℕ). Follows ps (λ p i k. 0) (instances_of (fresh t v)) (instances_of w)) (sym (fresh_same ps m room v)) (record {
        long = cut;
        long' = cut;
        outside = λ w o. refl;
        inside = λ p i k l h o n. refl;
        few = blank;
      });
      queues = ap queues_of (fresh_same ps m room v);
      fits = fresh_good;
    }
      where
        cut : length (instances_of (fresh t v)) ≡ instances_words
        cut = length-take-le instances_words (fresh t v) (omega (arith, long))

        blank : (p i k : ℕ) → p < length ps → i < instances → k < length (els_in ps p) → is_end_snd (get_or (els_in ps p) k []) ≡ true → at (instances_of (fresh t v)) (instance_place p i + token_place (exit_at (get_or (ends_in ps p) k []) 0)) ≤ 0
        blank p i k l h o is =
            let E = all_ended (els_in ps p) (fit ps m room p l).every (has ps m room p l) k o is in
            let F : ℕ = token_place (exit_at (get_or (ends_in ps p) k []) 0) in
            let a : at (instances_of (fresh t v)) (instance_place p i + F) ≡ at (fresh t v) (instance_place p i + F) = get_or-take instances_words (fresh t v) (instance_place p i + F) 0 (omega (arith, l, m.high, h, E.low, E.high)) in
            let d : at (fresh t v) (instance_place p i + F) ≡ 0 = fresh_blank ps m room p i F l h (record { edge = exit_at (get_or (ends_in ps p) k []) 0; low = E.low; high = E.high; free = E.free; place = refl }) v in
            omega (arith, a, d)

    -- A MODEL'S old log
    pub model-lawful : (log : List ℕ) → OldLog ps v log → judged_to t' v log ≡ lawful
    model-lawful log old =
        lawful_when t' v log (asked_good t' v good known) old.is_log
        (lines_on (lines_of log) (λ p i k. 0) (fresh t v) (fresh t' v) fresh_beside old.told (λ p i k is. (let w = old.few p i k is in omega (arith, w))))

    -- the log of a model's old history, in the text that the run program printed of it
    pub model_printed : (moments : ℕ → ℕ) (acts : List Act) → OldHistory ps v acts → length (log_text moments (old_told t acts (fresh t v))) ≤ log_most
        → judged_to t' v (log_text moments (old_told t acts (fresh t v))) ≡ lawful
    model_printed moments acts old short =
        let asked = asked_good t' v good known in
        let small = table_small (map rewritten ps) (rewritten_fits ps m room) in
        let both = acts_on acts (λ p i k. 0) (fresh t v) (fresh t' v) fresh_beside old.accepted (λ p i k is. (let w = old.few p i k is in omega (arith, w))) in
        let words = fresh_words t' v asked small acts both.0 old.posted in
        let ws : List (List ℕ) = old_told t acts (fresh t v) in
        let entries : Each Entry ws = subst (Each Entry) both.1 (told_entries t' acts (fresh t' v) fresh_good both.0 words) in
        let back = printed_log_reads moments ws entries short in
        told_log t' v asked small acts both.0 old.posted (log_text moments ws) (length (log_text moments ws)) back.whole (back.lines_are ∙ sym both.1)

-- A TEXT'S, by the public calls: the model that it says, and the table that is read
module _ (text t₀ : List ℕ) (read : (read_into text t₀).number ≡ 0) (v : ℕ) (known : is_version v ≡ true) where
  abbrev said : List Pool
  said = (model text).value

  by_model : (log : List ℕ) → (Model said → each has_room said ≡ true → lowest said ≡ 0 → judged_to (table_of (map rewritten said)) v log ≡ lawful) → judged_to (read_into text t₀).table v log ≡ lawful
  by_model log f =
      ⊎_elim (λ (w : Whole text (read_into text t₀)). ap (λ (r : ReadInto). judged_to r.table v log) w.is ∙ f (model_fit text w.place w.ended) w.room w.sound)
      (λ (s : Stays t₀ (read_into text t₀)). absurd (s.refused read))
      (taken_either text t₀)

  pub old_log_lawful : (log : List ℕ) → OldLog said v log → judged_to (read_into text t₀).table v log ≡ lawful
  old_log_lawful log old = by_model log (λ m room sound. model-lawful said m room sound v known log old)

  pub old_history_lawful : (moments : ℕ → ℕ) (acts : List Act) → OldHistory said v acts → length (log_text moments (old_told (table_of said) acts (fresh (table_of said) v))) ≤ log_most
      → judged_to (read_into text t₀).table v (log_text moments (old_told (table_of said) acts (fresh (table_of said) v))) ≡ lawful
  old_history_lawful moments acts old short = by_model _ (λ m room sound. model_printed said m room sound v known moments acts old short)
