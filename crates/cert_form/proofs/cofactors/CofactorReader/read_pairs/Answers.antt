use Rattle.std.proofs.Common.{ℕ}
use Rattle.loop_model.specs.FracPoly.{FracPoly}
use Rattle.cert_form.specs.Path.{path_bytes}
use Rattle.cert_form.proofs.PairSteps.{pairs_start, pairs_more}
use Rattle.cert_form.proofs.Paths.{place_is}
use Rattle.cert_form.proofs.cofactors.CofactorReader.read_pairs.Goals as goal

pub loop-i-init : goal.loop-i-init
loop-i-init c = pairs_start c.args.self.now.names.now c.args.self.now.elements
    (path_bytes c.args.path.now) c.args.list.now c.new-found.result c.new-found.ensures.items
    c.new-found.ensures.len

pub loop-i-preserved : goal.loop-i-preserved
loop-i-preserved c =
    let pair : ℕ × FracPoly = (c.in_ok-position.position, c.in_ok-position.cofactor) in
    pairs_more c.args.self.now.names.now c.args.self.now.elements _ c.args.list.now c.loop-i.i
    c.len.result _ c.index-list-i.result c.loop-i.found c.len.ensures c.loop-i-test.true
    c.index-list-i.is (place_is _ _) c.loop-i.invariant
    c.len-in-loop-i.result pair c.push_zeros.new.found c.push.new.self c.len-in-loop-i.ensures.len
    c.in_ok-position.ensures.reads c.in_ok-position.ensures.within.1
    c.in_ok-push_zeros.ensures.count c.in_ok-push_zeros.ensures.zeros
    c.in_ok-push.ensures.items c.in_ok-push.ensures.len
