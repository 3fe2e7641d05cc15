-- A step's answer with a number in the place of its enum. Assumes nothing.
use Prim.Native.Nat.{ℕ}
use mathlib.Core.Path.{◌≡◌, ◌∙◌, ap}
use mathlib.Core.List.{List}
use Rattle.meaning.specs.declared.Answer.{Answer}
use Rattle.engine.specs.Engine.{Stepped}
use Rattle.cuttingvale.specs.declared.Taken.{Taken}
use Rattle.engine.specs.Desk.{AtDesk}
use Rattle.cuttingvale.specs.Boundary.{traffic_number, TakenTo, told_to_c, told_at}

pub told_is : (s : AtDesk Stepped) (a : Answer) (z : List ℕ) (rs : List (List ℕ)) (k : ℕ) → ◌≡◌ {A = AtDesk Stepped} (record { done = record { answer = a; state = z }; records = rs }) s → k ≡ traffic_number a.traffic
    → ◌≡◌ {A = AtDesk TakenTo} (record { done = record { answer = record { number = a.number; traffic = k; name = a.name; tuple = a.tuple }; state = z }; records = rs }) (told_at s)
unfolding told_to_c told_at
told_is s a z rs k e h =
    (λ i. record { done = record { answer = record { number = a.number; traffic = h i; name = a.name; tuple = a.tuple }; state = z }; records = rs }) ∙ ap told_at e
