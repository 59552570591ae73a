use Rattle.std.proofs.Common.{refl}
use Rattle.program_model.proofs.Copies.{ready_copy, way_copy}
use Rattle.program_model.proofs.path.Path.copy.Goals as goal

pub returns-clause-ready : goal.returns-clause-ready
returns-clause-ready c n h =
    let z = c.in_ok-zeros.ensures in
    let i = c.in_ok-images.ensures in
    ready_copy c.args.self.now _ refl refl refl
    (record { terms = z.terms; arities = z.arities })
    (record { terms = i.terms; arities = i.arities }) n h

pub returns-clause-way : goal.returns-clause-way
returns-clause-way c n u cs h =
    let z = c.in_ok-zeros.ensures in
    let i = c.in_ok-images.ensures in
    way_copy c.args.self.now _ refl refl refl
    (record { terms = z.terms; arities = z.arities })
    (record { terms = i.terms; arities = i.arities }) n u cs h
