use Rattle.std.proofs.Common.{◌≡◌, ℕ, List, length, sym, ap, subst, ◌∙◌, Ok}
use Rattle.loops.specs.Inv.{Inv}
use Rattle.loops.specs.Program.{Expr, Program}
use Rattle.closures.specs.UpTo.{low_part, IsReducedUpTo}
use Rattle.closures.proofs.Ideals.{invariants_ideal}
use Rattle.closures.proofs.OneUpTo.{low_part_is, one_up_to}
use Rattle.command_parts.specs.BasisTexts.{basis_text}
use Rattle.analysis_commands.specs.declared.kind.Kind.TheVariants as kinds
use Rattle.analysis_commands.specs.Headline.{ShowsAnalysis}
use Rattle.closing_commands.specs.DegreeHeadline.{ShowsList}
use Rattle.invar_app.proofs.laws.bases_up_to_a_degree_are_low_parts.Goals as goal

low_told : (text said other : List ℕ) (d : ℕ) (a : ShowsAnalysis kinds.Basis text said)
    → ShowsList text d other → other ≡ basis_text a.loop.names (low_part d a.certificate.basis)
low_told text said other d a b =
    let same : b.loop ≡ a.loop =
    (let x : Ok b.loop ≡ Ok a.loop = sym b.is_loop ∙ a.is_loop in cc) in
    let here : IsReducedUpTo (length a.loop.names) d b.list (Inv a.loop) =
    subst (λ (l : Program (Expr ℕ)). IsReducedUpTo (length l.names) d b.list (Inv l)) same
    b.reduced in
    b.says ∙ ap (λ (l : Program (Expr ℕ)). basis_text l.names b.list) same
    ∙ ap (basis_text a.loop.names) (one_up_to (length a.loop.names) d (Inv a.loop)
    (invariants_ideal a.loop) b.list (low_part d a.certificate.basis) here
    (low_part_is (length a.loop.names) d (Inv a.loop) a.certificate.basis a.is_basis))

pub returns : goal.returns
returns c = low_told
