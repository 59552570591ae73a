use Rattle.std.proofs.Common.{◌≡◌, ◌<◌, subst, sym, ◌∙◌, length, arith}
use Rattle.linear.specs.Rows.{rows_of}
use Rattle.eigen_split.proofs.Taking.{all_at, taken_none, taken_step, vector_refused}
use Rattle.eigen_split.proofs.levels.KnownForms.take_new.Goals as goal
use Rattle.eigen_split.proofs.levels.KnownForms.take_new.Goals.{After-index}

-- the size stays, and the vector of this step has it
module _ (c : After-index) where
  size_is : c.loop-j.self.size ≡ c.args.self.now.size
  size_is = sym c.loop-j.self.width ∙ c.loop-j.invariant.width

  low : c.loop-j.j < length c.args.vectors.now.items
  low = subst (λ m. c.loop-j.j < m) (c.len-j-end.ensures ∙ c.args.vectors.now.ok.0)
      c.loop-j-test.true

  wide : length c.index.result.now.items ≡ c.args.self.now.size
  wide = all_at c.args.vectors.now.items c.loop-j.j c.index.result.now c.requires.widths low
      c.index.ensures

pub loop-j-init : goal.loop-j-init
loop-j-init c = taken_none c.args.self.now.size (rows_of c.args.self.now.forms.items)
    c.args.self.now.echelon c.args.self.now.width c.requires.echelon

pub take_one-requires : goal.take_one-requires
take_one-requires c =
    let at = (goal.at.take_one-requires c).After-index in
    wide at ∙ sym (size_is at)

pub returns-in-Err-clause-size : goal.returns-in-Err-clause-size
returns-in-Err-clause-size c =
    c.in-Err.ensures.size ∙ size_is (goal.at.returns-in-Err-clause-size c).After-index

pub returns-in-Err-clause-refused : goal.returns-in-Err-clause-refused
returns-in-Err-clause-refused c =
    let at = (goal.at.returns-in-Err-clause-refused c).After-index in
    let e = size_is at in
    vector_refused c.args.self.now.size (rows_of c.args.self.now.forms.items)
    c.args.vectors.now.items c.loop-j.j c.index.result.now _ c.args.place.now.power
    c.loop-j.self.echelon c.in-Err.error (omega (arith, e)) c.loop-j.invariant (low at)
    c.index.ensures c.in-Err.ensures.refused

pub loop-j-preserved : goal.loop-j-preserved
loop-j-preserved c =
    let at = (goal.at.loop-j-preserved c).After-index in
    taken_step c.args.self.now.size (rows_of c.args.self.now.forms.items)
    c.args.vectors.now.items c.loop-j.self.forms.items c.take_one.new.self.forms.items c.loop-j.j
    c.index.result.now c.loop-j.self.echelon c.take_one.new.self.echelon c.loop-j.invariant (low at)
    c.index.ensures (wide at)
    (c.take_one.new.self.width ∙ c.in_default.ensures.size ∙ sym c.loop-j.self.width)
    c.in_default.ensures.more c.in_default.ensures.taken
