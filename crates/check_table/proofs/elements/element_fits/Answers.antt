use lib.Seq.{length-take-le}
use mathlib.Core.Path.{sym}
use Rattle.base_table.specs.Places.{element_words}
use Rattle.check_table.proofs.ElementLaws.{element_cut}
use Rattle.check_table.proofs.elements.element_fits.Goals as goal

pub slice_bounds-row_fits-end : goal.slice_bounds-row_fits-end
slice_bounds-row_fits-end c = sym (length-take-le element_words c.args.el.now c.requires)

pub returns : goal.returns
returns c = element_cut _ _ c.row_fits.ensures
