-- A choice by a test, shut: a proof goes by its two laws, so that no goal is written out.
use Rattle.std.specs.Prelude.{Bool, true, false}

infixr 5 if◌then◌or_else◌
unfoldable pub if◌then◌or_else◌ : {A : Type 0} → Bool → A → A → A
if true then x or_else y = x
if false then x or_else y = y
