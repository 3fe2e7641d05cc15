use mathlib.Core.Path.{refl, sym}
use mathlib.Core.Bool.{false≢true}
use native.Mathlib.Omega.{arith}
use Rattle.xml_markup.proofs.ShelfLaws.{is_put}
use borrow.Author.Rules.{rules}
use Rattle.xml_markup.proofs.shelf.keep.Goals as goal

pub returns-then-from-ge-PLACES : goal.returns-then-from-ge-PLACES
returns-then-from-ge-PLACES c = ((λ e. absurd (false≢true e)), λ e. refl)

pub returns-then-stands_at : goal.returns-then-stands_at
returns-then-stands_at c = ((λ e. absurd (false≢true e)), λ e. refl)

pub overflow_add-from : goal.overflow_add-from
overflow_add-from c = omega (arith, c.if-to-ge-PLACES.false)

pub insert-requires : goal.insert-requires
insert-requires c = (c.place_of-r.ensures.within, search rules)

pub returns : goal.returns
returns c = ((λ e up. is_put _ _ _ _ _ _ _ _ c.piece-name.ensures c.if-to-ge-PLACES.false c.place_of-r.ensures (c.stands_at.ensures c.if-stands_at.false) c.insert.ensures c.requires up), λ e. absurd (false≢true (sym e)))
