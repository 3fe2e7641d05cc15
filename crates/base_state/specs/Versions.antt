-- "A fresh state is made for version 10 or 20 and keeps it." (RULES: versions)
use Rattle.std.specs.Prelude.{ℕ, Bool, ◌||◌, eqb}

-- the former version waits where the present one does not
abbrev pub former : ℕ
former = 10

abbrev pub present : ℕ
present = 20

unfoldable pub is_version : ℕ → Bool
is_version v = eqb v former || eqb v present
