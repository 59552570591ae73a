-- That the premises of the clauses of `Finds` can be met by a loop with `init`, and those of `FindsRelations` by a sequence (specs/).
--   begun_..     of the loop `vars x; init x=1; branch {}`, whose basis is x - 1
--   steady_..    of the sequence f(0) = 1, f(n+1) = f(n), whose relations f - 1 generates
-- What meets each premise:
--   ReadsLoop, ReadsSequences          begun_read, steady_read, where the outside tells the bytes
--   IsNeverRefused, IsWithinBudget     begun_never_refused, begun_within, with any budget but 0
--   AreFree, AllSplit                  begun_free, begun_splits; steady_free, steady_splits
--   IsNeverStopped, IsRelatedWithin    steady_never_stopped, steady_within, with any budget but 0
use Rattle.std.proofs.Common.{◌≡◌, ℕ, zero, suc, ◌<◌, ◌≤◌, pos, List, [], ◌∷◌, ◌++◌, length, get_or, refl, sym, ap, subst, ◌∙◌, arith, None, Ok, codes}
use Rattle.std.specs.Prelude.{All}
use Rattle.algebra.specs.Each.{Each}
use Rattle.algebra.specs.Gcd.{gcd}
use Rattle.algebra.specs.Ratio.{is_lowest, reduce}
use Rattle.algebra.specs.Fraction.{fraction, opposite}
use Rattle.grammars.specs.Reader.{read}
use Rattle.polynomials.specs.Algebra as Algebra
use Rattle.polynomials.specs.Exponent.{unit_exponents}
use Rattle.polynomials.specs.Order.{compare, grevlex}
use Rattle.polynomials.specs.Terms.{constant, variables}
use Rattle.machines.specs.Collect.{collect, insert, place}
use Rattle.machines.specs.Journal.{Entry, units_of}
use Rattle.loops.specs.Effect.{after_branch, after_statement, store, value_of}
use Rattle.loops.specs.Limits.{most_names, most_bytes, most_branches, most_statements, most_operators, most_exponent}
use Rattle.loops.specs.Map.{branch_map}
use Rattle.loops.specs.Program.{Expr, Program, number, variable}
use Rattle.loops.specs.Sequences.{Sequence, size}
use Rattle.loops.specs.Turning.{names, indexed_names, places, all_given, equations, first_places, variables_from, iteration, program_of}
use Rattle.loops.specs.WellFormed.{local_places}
use Rattle.solvable_maps.specs.Classes.{IsFormBase}
use Rattle.machines.specs.Run.{IsRun}
use Rattle.rounds.specs.Analysis.{fresh, finished, next, moves}
use Rattle.rounds.specs.BranchMap.{map_of}
use Rattle.rounds.specs.Form.{Form, IsClosedForm}
use Rattle.rounds.specs.Journal.{setting_of, AreForms, IsFinished}
use Rattle.rounds.specs.Start.{start_list, start_polynomial, in_order}
use Rattle.loop_model.specs.Operations.{IsWide, PassesLimit, operations, operations_all}
use Rattle.loop_model.specs.Maps.{maps_operations, AreFree, statements_operations}
use Rattle.loop_model.specs.Words.{keyword_of}
use Rattle.solvable.specs.Refusal.{IsSolvable}
use Rattle.closed_forms.specs.Lengths.{IsShort}
use Rattle.closed_forms.specs.Refusal.{AllPass, Refusal, IfFormRefused}
use Rattle.corollaries.specs.Journal.{IsEnded, IsEliminated, IsStopped, IsPastBehind}
use Rattle.poly_text.specs.Lexemes.{lexeme_at, placed_behind}
use Rattle.poly_text.specs.Sums.{most_depth}
use Rattle.loop_text.specs.LoopReader.{loop_of}
use Rattle.loop_text.specs.SeqReader.{sequences_from, sequences_of}
use Rattle.loop_text.specs.Seqs.{sequences_word, most_seqname}
use Rattle.analysis_commands.specs.Causes.{IsNeverRefused, IsWithinBudget}
use Rattle.analysis_commands.specs.Completeness.{AllSplit}
use Rattle.analysis_commands.specs.RelationsClauses.{IsNeverStopped, IsRelatedWithin}
use Rattle.analysis_commands.proofs.IdentityMap.{still, still_solvable, still_passes, still_short, turned_normal, still_base_is, same_iterations, still_unrefused}
use Rattle.analysis_commands.proofs.IdleLoops.{x_form}
use Rattle.analysis_commands.proofs.StartedRuns.{one_program, gens, gone, tested, A, the_setting, run, ends}
use Rattle.analysis_commands.proofs.RelatedRuns.{the_entries, never_past_of, never_long_of, one_basis, ended_elimination, behind_fits}

-- ---- loops of one variable with one branch, whose map leaves it as it is
pub none_of : {X : Type 0} (xs before behind : List X) (x : X) → xs ≡ [] → xs ≡ before ++ x ∷ behind
    → ⊥
none_of xs [] behind x e h = (let z = ap length (sym e ∙ h) in omega (arith, z))
none_of xs (y ∷ before) behind x e h = (let z = ap length (sym e ∙ h) in omega (arith, z))

module _ (l : Program (Expr ℕ)) (single : length l.branches ≡ 1)
    (setting : (f : Form) → setting_of l (f ∷ []) None ≡ A f)
    (map_is : map_of l 1 ≡ still) (closed : IsClosedForm l 1 x_form)
    (small : length l.names ≡ 1) (none : maps_operations l ≡ []) where
  free_of : AreFree l
  free_of = subst (All (λ o. ¬ (PassesLimit (length l.names) o))) (sym none)
      (λ i d less. absurd (omega (arith, less)))

  narrow_of : (at : ℕ) → IsWide (length l.names) (maps_operations l) at → ⊥
  narrow_of at w = none_of (maps_operations l) w.before w.behind w.operation none w.order

  splits_of : AllSplit l
  splits_of zero less = subst (λ ms. IsSolvable ms × AllPass ms × IsShort ms) (sym map_is)
      (still_solvable, still_passes, still_short)
  splits_of (suc b) less = absurd (omega (arith, less, single))

  unrefused_of : (b : ℕ) (r : Refusal) → b < length l.branches
      → ¬ (IfFormRefused (map_of l (suc b)) r)
  unrefused_of zero r less h = still_unrefused r (subst (λ ms. IfFormRefused ms r) map_is h)
  unrefused_of (suc b) r less h = absurd (omega (arith, less, single))

  never_refused_of : IsNeverRefused l
  never_refused_of = record {
    free = free_of;
    maps = narrow_of;
    branches = unrefused_of;
    states = λ es s f p. never_past_of l single setting es s f p;
    short = λ es s f p. never_long_of l single setting es s f p;
  }

  forms_of : AreForms l (x_form ∷ [])
  forms_of = record { count = sym single; each = λ b d less. go b d less }
    where
      go : (b : ℕ) (d : Form) → b < 1 → IsClosedForm l (suc b) (get_or (x_form ∷ []) b d)
      go zero d less = closed
      go (suc b) d less = absurd (omega (arith, less))

  finished_of : IsFinished l the_entries 0 gens
  finished_of = record {
    state = tested gone;
    follows = record {
      forms = x_form ∷ [];
      are_forms = forms_of;
      run = subst (λ B. IsRun (moves B) fresh the_entries (tested gone)) (sym (setting x_form))
          (run x_form);
    };
    is = subst (λ B. next B (tested gone) ≡ finished 0 gens) (sym (setting x_form)) (ends x_form);
  }

few_units : (budget : ℕ) → 1 ≤ budget → units_of the_entries ≤ budget
unfolding units_of
few_units budget some = omega (arith, some)

-- ---- a loop with init
begun_map : map_of one_program 1 ≡ still
unfolding map_of branch_map after_branch variables unit_exponents constant collect insert place
    compare grevlex fraction is_lowest gcd
begun_map = refl

begun_closed : IsClosedForm one_program 1 x_form
unfolding Each branch_map after_branch variables unit_exponents
begun_closed = record {
  base = subst (λ ms. IsFormBase ms []) (sym begun_map) still_base_is;
  polynomials = (turned_normal.polynomial, tt);
  normal = (turned_normal.normal, tt);
  form = record { arity = ((refl, tt), tt); values = λ n s l e. same_iterations n s l };
  least = λ d c. omega arith;
}

begun_operations : maps_operations one_program ≡ []
unfolding operations operations_all statements_operations
begun_operations = refl

pub begun_never_refused : IsNeverRefused one_program
begun_never_refused =
    never_refused_of one_program refl (λ f. the_setting f) begun_map begun_closed refl
    begun_operations

pub begun_within : (budget : ℕ) → 1 ≤ budget → IsWithinBudget one_program budget
begun_within budget some = record {
  entries = the_entries;
  rounds = 0;
  list = gens;
  finished = finished_of one_program refl (λ f. the_setting f) begun_map begun_closed refl
      begun_operations;
  few = few_units budget some;
}

pub begun_free : AreFree one_program
begun_free = free_of one_program refl (λ f. the_setting f) begun_map begun_closed refl
    begun_operations

pub begun_splits : AllSplit one_program
begun_splits = splits_of one_program refl (λ f. the_setting f) begun_map begun_closed refl
    begun_operations

pub begun_read : loop_of (codes "vars x; init x=1; branch {}") ≡ Ok one_program
unfolding placed_behind lexeme_at read keyword_of most_names most_bytes most_branches
    most_statements most_operators most_exponent most_depth local_places
begun_read = refl

-- ---- a sequence
abbrev pub steady : List (Sequence (Expr ℕ))
steady = record { name = 102 ∷ []; first = number (pos 1); later = []; next = variable 0 } ∷ []

steady_setting : (f : Form) → setting_of (program_of steady) (f ∷ []) None ≡ A f
unfolding names indexed_names places all_given equations variables_from iteration size start_list
    start_polynomial in_order value_of variables unit_exponents constant opposite Algebra.negate
    branch_map after_branch after_statement store collect insert place compare grevlex fraction
    is_lowest gcd reduce
steady_setting f = refl

steady_map : map_of (program_of steady) 1 ≡ still
unfolding names indexed_names places variables_from iteration size map_of branch_map after_branch
    after_statement store value_of variables unit_exponents constant collect insert place
    compare grevlex fraction is_lowest gcd
steady_map = refl

steady_closed : IsClosedForm (program_of steady) 1 x_form
unfolding names indexed_names places variables_from iteration size Each branch_map after_branch
    after_statement store value_of variables unit_exponents
steady_closed = record {
  base = subst (λ ms. IsFormBase ms []) (sym steady_map) still_base_is;
  polynomials = (turned_normal.polynomial, tt);
  normal = (turned_normal.normal, tt);
  form = record { arity = ((refl, tt), tt); values = λ n s l e. same_iterations n s l };
  least = λ d c. omega arith;
}

steady_small : length (names steady) ≡ 1
unfolding names indexed_names
steady_small = refl

steady_operations : maps_operations (program_of steady) ≡ []
unfolding names indexed_names places all_given equations variables_from iteration size operations
    operations_all statements_operations
steady_operations = refl

steady_places : first_places 0 steady ≡ 0 ∷ []
unfolding first_places
steady_places = refl

steady_ended : IsEnded (program_of steady) (0 ∷ []) the_entries gens
steady_ended = record {
  analysed = the_entries;
  rounds = 0;
  basis = gens;
  finished = finished_of (program_of steady) refl steady_setting steady_map steady_closed
      steady_small steady_operations;
  behind = subst (λ m. IsEliminated m (0 ∷ []) the_entries the_entries gens gens)
      (sym steady_small) (ended_elimination the_entries);
}

no_stop : (es : List Entry) → IsStopped (program_of steady) (0 ∷ []) es → ⊥
no_stop es h =
    let same = one_basis (program_of steady) refl steady_setting h.analysed h.rounds h.basis
    h.finished in
    behind_fits h.analysed es
    (subst (λ m. IsPastBehind m (0 ∷ []) h.analysed es gens) steady_small
    (subst (λ gs. IsPastBehind (length (names steady)) (0 ∷ []) h.analysed es gs) (sym same)
    h.behind))

pub steady_never_stopped : IsNeverStopped steady
steady_never_stopped = record {
  analysis = never_refused_of (program_of steady) refl steady_setting steady_map steady_closed
      steady_small steady_operations;
  elimination = λ es h. no_stop es
      (subst (λ is. IsStopped (program_of steady) is es) steady_places h);
}

pub steady_within : (budget : ℕ) → 1 ≤ budget → IsRelatedWithin steady budget
steady_within budget some = record {
  entries = the_entries;
  list = gens;
  ended = subst (λ is. IsEnded (program_of steady) is the_entries gens) (sym steady_places)
      steady_ended;
  few = few_units budget some;
}

pub steady_free : AreFree (program_of steady)
steady_free = free_of (program_of steady) refl steady_setting steady_map steady_closed
    steady_small steady_operations

pub steady_splits : AllSplit (program_of steady)
steady_splits = splits_of (program_of steady) refl steady_setting steady_map steady_closed
    steady_small steady_operations

pub steady_read : sequences_of (codes "sequences f = (1); f = f;") ≡ Ok steady
unfolding placed_behind lexeme_at read keyword_of most_names most_bytes most_branches
    most_statements most_operators most_exponent most_depth local_places sequences_word most_seqname
    sequences_from
steady_read = refl
