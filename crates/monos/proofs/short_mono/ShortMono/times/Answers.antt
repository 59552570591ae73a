use Rattle.std.proofs.Common.{refl, ap, sym, ◌∙◌, bit_and, ◌+◌}
use Rattle.std.proofs.Math.Facts.{Fits-of_lt}
use Rattle.monos.proofs.ShortMonos.{sum_fits, degrees_fit, short_product, fits_with, is_short}
use Rattle.monos.proofs.short_mono.ShortMono.times.Goals as goal

pub overflow_add-word : goal.overflow_add-word
overflow_add-word c = Fits-of_lt (sum_fits _ _ _ _ _ _ _ _ c.self.invariant c.other.invariant
    c.self.view_is c.other.view_is c.requires)

pub returns-then-word-guards_of-ne0-clause-fits : goal.returns-then-word-guards_of-ne0-clause-fits
returns-then-word-guards_of-ne0-clause-fits c = fits_with _ _ _ _ c.self.invariant c.self.view_is _
    _ _ _
    c.other.invariant c.other.view_is c.requires

pub overflow_add-result : goal.overflow_add-result
overflow_add-result c = Fits-of_lt (degrees_fit _ _ _ _ _ _ _ _ c.self.invariant c.other.invariant
    c.self.view_is c.other.view_is c.requires)

pub invariant_of-result : goal.invariant_of-result
invariant_of-result c = (short_product _ _ _ _ _ _ _ _ c.self.invariant c.other.invariant
    c.self.view_is c.other.view_is c.requires
    (ap (bit_and (c.self.inside.word + c.other.inside.word)) (sym c.guards_of.ensures)
    ∙ c.if-word-guards_of-ne0.false)).0

pub returns-clause-some : goal.returns-clause-some
returns-clause-some c = (short_product _ _ _ _ _ _ _ _ c.self.invariant c.other.invariant
    c.self.view_is c.other.view_is c.requires
    (ap (bit_and (c.self.inside.word + c.other.inside.word)) (sym c.guards_of.ensures)
    ∙ c.if-word-guards_of-ne0.false)).1

pub returns-clause-fits : goal.returns-clause-fits
returns-clause-fits c = fits_with _ _ _ _ c.self.invariant c.self.view_is _ _ _ _
    c.other.invariant c.other.view_is c.requires

pub returns-clause-short : goal.returns-clause-short
returns-clause-short c = is_short _ _ _ _ (short_product _ _ _ _ _ _ _ _ c.self.invariant
    c.other.invariant c.self.view_is c.other.view_is c.requires
    (ap (bit_and (c.self.inside.word + c.other.inside.word)) (sym c.guards_of.ensures)
    ∙ c.if-word-guards_of-ne0.false)).0 refl
