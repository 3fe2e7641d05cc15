-- WHICH LIBRARY IT IS, for a program that is linked with it.
use Rattle.std.specs.Prelude.{ℕ, ◌+◌, ◌*◌}

-- the version 2.0.0, in one number
abbrev pub release : ℕ
release = 10000 * 2 + 100 * 0 + 0

-- how many layouts of what is lent and given back there have been: words of 16 bits, words of 32, a state with version and stores, records beside a step
abbrev pub layouts : ℕ
layouts = 4
