use Rattle.std.proofs.Common.{pos, is_some, ap, subst}
use Rattle.std.specs.Prelude.{IfSome}
use Rattle.std.specs.List.{AllZip, Any}
use Rattle.poly.specs.Seen.{terms_in, terms_each}
use Rattle.loop_model.specs.View.{program_of}
use Rattle.residue_rows.specs.Modulus.{modulus}
use Rattle.closing.specs.Modulo.{AreTermsModulo, HasNoResidues}
use Rattle.closing.specs.Maps.{modular_terms_each, IsMapModulo}
use Rattle.closing.proofs.Modular.{images_modulo, branches_modulo, start_undefined, branches_undefined}
use Rattle.closing.proofs.modular_maps.residue_maps.Goals as goal

pub returns-in_default-clause-none : goal.returns-in_default-clause-none
returns-in_default-clause-none c = λ none.
    start_undefined (pos modulus) (program_of c.args.lp.now) _ c.requires.start (subst (Any (λ p.
    HasNoResidues (pos modulus) (terms_in p))) c.deref.ensures.value
    (c.in_ok-start.ensures.none (ap is_some c.in_default.is)))

pub returns-in_default-2-clause-none : goal.returns-in_default-2-clause-none
returns-in_default-2-clause-none c = λ none.
    branches_undefined (pos modulus) (program_of c.args.lp.now) _ c.requires.branches
    (subst (Any (λ map. Any (λ p. HasNoResidues (pos modulus) (terms_in p)) map.items))
    c.deref-2.ensures.value (c.in_ok-branches.ensures.none (ap is_some c.in_default-2.is)))

pub returns-clause-maps : goal.returns-clause-maps
returns-clause-maps c =
    let program = program_of c.args.lp.now in
    record {
      start =
          images_modulo (pos modulus) _ _ _ _ c.requires.start (subst (λ ps. AllZip
          (AreTermsModulo (pos modulus)) (terms_each ps) (modular_terms_each c.in-Some.start.items))
          c.deref.ensures.value (subst (λ found. IfSome found (λ rs. AllZip
          (AreTermsModulo (pos modulus)) (terms_each c.deref.result.now)
          (modular_terms_each rs.items))) c.in-Some.is c.in_ok-start.ensures.map));
      branches =
          branches_modulo program _ program.branches _ c.requires.branches (subst (λ maps. AllZip
          IsMapModulo maps c.in-Some-2.branches.items) c.deref-2.ensures.value (subst (λ found.
          IfSome found (λ rs. AllZip IsMapModulo c.deref-2.result.now rs.items)) c.in-Some-2.is
          c.in_ok-branches.ensures.maps));
    }
