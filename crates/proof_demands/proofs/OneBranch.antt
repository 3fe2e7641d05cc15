-- THE FIRST TRUE BRANCH, over the public calls: of an xorSplit at most one branch is permitted in a state. Assumes nothing.
use Prim.Native.Nat.{ℕ}
use mathlib.Core.Path.{◌≡◌, sym, ◌∙◌, subst}
use mathlib.Core.List.{List}
use Rattle.base_kinds.specs.Kinds.{xor_split}
use Rattle.base_table.specs.Table.{kind_in}
use Rattle.base_state.specs.Instances.{instances_of, queues_of}
use Rattle.meaning.specs.declared.Name.{Name}
use Rattle.meaning.specs.declared.Answer.{Answer}
use Rattle.meaning.specs.declared.Tuple.{Tuple}
use Rattle.meaning.specs.Step.{element_named}
use Rattle.step_list.specs.declared.Listed.{Listed}
use Rattle.step_list.specs.Listing.{listed, chosen}
use Rattle.proof_listing.proofs.OneBranch.{with_branch, one_branch, listed_one_branch}
use Rattle.engine.specs.Calls.{Valid}
use Rattle.engine.proofs.CallLaws.{table_fits_lem, checks_hold, state_fits_lem}
use Rattle.proof_demands.specs.Promises.{StepsOn, Lists}
use Rattle.proof_demands.proofs.SecondDemand.{step_permits}
use Rattle.proof_demands.proofs.RunSteps.{listed_is}

module _ (t z : List ℕ) where
  -- two accepted steps that differ only in the branch (and in values) at an xorSplit do not differ in it
  pub step_one_branch : (n : Name) (b : ℕ) (g : Tuple) (r o : Answer) (y x : List ℕ) → kind_in (element_named t n) ≡ xor_split
      → StepsOn t z n r y → StepsOn t z (with_branch n b g) o x → r.number ≡ 0 → o.number ≡ 0 → n.branch ≡ b
  step_one_branch n b g r o y x split p c d e =
      let h = step_permits t z n r y p d in
      let k = step_permits t z (with_branch n b g) o x c e in
      one_branch t (instances_of z) (queues_of z) n b g split h.1 h.2 k.1 k.2

  -- the listing shows an instance's xorSplit at most once: two listed steps of it stand at one place
  abbrev pub AtOnePlace : ℕ → ℕ → Listed → Listed → Type 0
  AtOnePlace j k r o =
      r.number ≡ 0 → o.number ≡ 0 → r.name.pool ≡ o.name.pool → r.name.instance ≡ o.name.instance → r.name.element ≡ o.name.element
      → kind_in (element_named t r.name) ≡ xor_split → j ≡ k

  pub list_one_branch : Valid t z → (j k : ℕ) (r o : Listed) → Lists t z j r → Lists t z k o → AtOnePlace j k r o
  list_one_branch v j k r o p q =
      subst (λ (x : Listed). AtOnePlace j k x o) (sym (p ∙ listed_is t z v j))
      (subst (λ (x : Listed). AtOnePlace j k (chosen (listed t (instances_of z) (queues_of z)) j) x) (sym (q ∙ listed_is t z v k))
      (listed_one_branch t (instances_of z) (queues_of z) (table_fits_lem t z v.fits) (checks_hold t z v.fits) (state_fits_lem t z v.fits) j k))
