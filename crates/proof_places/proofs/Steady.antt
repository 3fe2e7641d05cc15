-- Reading goes by the forms and the letters of the tokens alone: two texts whose tokens have these in common, one by one, give the same values and are read
-- or refused alike. So too a text beside itself: reading goes from token to token. Assumes nothing.
use Prim.Native.Nat.{ℕ, suc}
use mathlib.Core.Path.{◌≡◌, refl, sym, subst}
use mathlib.Core.List.{List}
use Rattle.base_words.specs.Pick.{if◌then◌or_else◌}
use Rattle.text_readers.specs.Reading.{misplaced, excessive, letters}
use Rattle.check_model.specs.Checks.{Pool}
use Rattle.text_read.specs.Notation.{Got, model}
use Rattle.proof_places.specs.Places.{behind_first, kth_token, ReadAlike, both_read, both_refused}
use Rattle.proof_places.proofs.Course.{Course, stop, refuse, pass, look, follow}
use Rattle.proof_places.proofs.Whole.{whole, whole_is}

pub record Level (t u : List ℕ) : Type 0 where
  pub form : (k : ℕ) → (kth_token t k).form ≡ (kth_token u k).form
  pub word : (k : ℕ) → letters t (behind_first t k) ≡ letters u (behind_first u k)

module _ {A : Type 0} (t u : List ℕ) (level : Level t u) where
  steady : (c : Course A) (k : ℕ) → ReadAlike t u (follow c t (behind_first t k)) (follow c u (behind_first u k))
  unfolding follow behind_first
  steady (stop v) k = record { value = refl; end = both_read k refl refl }
  steady (refuse above v) k = record { value = refl; end = both_refused (if above then excessive or_else misplaced) k refl refl }
  steady (pass c) k = steady c (suc k)
  steady (look f) k =
      subst (λ (c : Course A). ReadAlike t u (follow (look f) t (behind_first t k)) (follow c u (behind_first u k)))
      (λ i. f (level.form k i) (level.word k i))
      (steady (f (kth_token t k).form (letters t (behind_first t k))) k)

pub model_steady : (t u : List ℕ) → Level t u → ReadAlike t u (model t) (model u)
unfolding behind_first
model_steady t u level =
    subst (λ (r : Got (List Pool)). ReadAlike t u r (model u)) (sym (whole_is t))
    (subst (λ (r : Got (List Pool)). ReadAlike t u (follow whole t 0) r) (sym (whole_is u)) (steady t u level whole 0))

pub itself : (t : List ℕ) → Level t t
itself t = record { form = λ k. refl; word = λ k. refl }
