-- Answers to the analysis of a chain, from what it gave.
--   bases_over           the bases are over the variables of the chain
--   found_said           the answer where each loop has a basis;  found_analysed: what the meter is left with
--   refused_said         where the analysis of a loop was refused;  refused_analysed, refused_named
use Rattle.std.proofs.Common.{◌≡◌, ℕ, zero, suc, ◌<◌, ◌≤◌, List, [], ◌∷◌, get_or, length, refl, sym, ap, subst, ◌∙◌, inl, inr, arith, Result, All}
use Rattle.std.specs.Prelude.{Option, Some, None, IfOk}
use Rattle.std.specs.Global.{Vec}
use Rattle.std.specs.declared.alloc.AllocError.{AllocError}
use Rattle.std.proofs.lemmas.List.{get_or-map, length-map}
use Rattle.std.proofs.lemmas.Result.{IfOk-weaker}
use Rattle.algebra.specs.Fraction.{Fraction}
use Rattle.polynomials.specs.Terms.{Terms}
use Rattle.machines.specs.Journal.{Journal}
use Rattle.loops.specs.Program.{Expr}
use Rattle.poly.specs.Seen.{terms_each}
use Rattle.loop_model.specs.FracPoly.{FracPoly}
use Rattle.ideal_ops.specs.Calls.{AreOver}
use Rattle.rounds.specs.Journal.{IsFinishedBy}
use Rattle.loops.specs.Chain.{Chain, code_at, loop_at}
use Rattle.corollaries.specs.Analysed.{Analysed, at_first}
use Rattle.corollaries.proofs.Mapped.{exhausted_mapped, past_mapped}
use Rattle.invariant_fix.specs.declared.errors.AnalyseError.TheVariants as error
use Rattle.invariant_fix.proofs.Options.{if_ok_two}
use Rattle.analysis_commands.proofs.Naming.{named}
use Rattle.loop_model.specs.Operations.{PassesLimit, IsFree}
use Rattle.loop_model.specs.Maps.{maps_operations}
use Rattle.invariant_fix.specs.Bases.{empty_journal, Reaches, code_operations, operations_at, InLoop, InCode, AreBases, IsLast, HasWorked, IsRefusedAt, IsRefusedIn}
use Rattle.invariant_fix.specs.declared.refused.LoopError.{LoopError}
use Rattle.invariant_fix.specs.declared.refused.LoopError.TheVariants as loop_error
use Rattle.invariant_fix.specs.declared.refused.Refused.{Refused}
use Rattle.io_edge.specs.declared.answer.Answer as made
use Rattle.io_edge.specs.declared.answer.Status.TheVariants as status
use Rattle.io_edge.specs.Texts.{with_text}
use Rattle.io_edge.specs.Views.{answer_view}
use Rattle.analysis_commands.proofs.ChainAnalysing.{all_second}
use Rattle.analysis_commands.specs.Lists.{lists_of}
use Rattle.analysis_commands.specs.ChainTexts.{bases_text}
use Rattle.analysis_commands.specs.ChainHeadline.{AreReadBack}
use Rattle.analysis_commands.specs.ChainAnalyses.{HaveFound, found, refused, refused_answer, AreNamedIn, Analyses, HasAnalysed}

abbrev seen : Vec FracPoly → List (Terms Fraction)
seen b = terms_each b.items

an_element : (xs : List (Vec FracPoly)) (j : ℕ) → j < length xs → Vec FracPoly
an_element [] j l = absurd (omega (arith, l))
an_element (x ∷ xs) j l = x

-- a basis of the program is its list
seen_at : (bases : List (Vec FracPoly)) (j : ℕ) (d : Vec FracPoly) → j < length bases
    → seen (get_or bases j d) ≡ get_or (lists_of bases) j []
seen_at bases j d l = sym (get_or-map seen bases j d [] l)

-- with more that is known of the same journal
module _ (c : Chain (Expr ℕ)) (budget : ℕ) (m : Journal) (j : ℕ) where
  loop_weaker : (P Q : ℕ → Option (List (Terms Fraction)) → Type 0)
      → ((left : ℕ) (given : Option (List (Terms Fraction))) → P left given → Q left given)
      → InLoop c budget m j P → InLoop c budget m j Q
  loop_weaker P Q f l = record {
    left = l.left;
    given = l.given;
    known = l.known;
    limit = l.limit;
    so = f l.left l.given l.so;
  }

  code_weaker : (P Q : List (Terms Fraction) → Type 0)
      → ((gs : List (Terms Fraction)) → P gs → Q gs) → InCode c budget m j P
      → InCode c budget m j Q
  code_weaker P Q f l = record {
    place = l.place;
    is = l.is;
    list = l.list;
    analysed = l.analysed;
    limit = l.limit;
    so = f l.list l.so;
  }

module _ (c : Chain (Expr ℕ)) (budget : ℕ) (m : Journal) (bases : List (Vec FracPoly))
    (are : AreBases c budget (suc (length c.further)) bases)
    (last : IsLast c budget (suc (length c.further)) m bases) where
  inside : (j : ℕ) → j ≤ length c.further → j < length bases
  inside j l = let e = are.count in omega (arith, e, l)

  last_is : last.place ≡ length c.further
  last_is = let e = last.is in omega (arith, e)

  analysed_at : (j : ℕ) → j ≤ length c.further → Analysed c budget j (get_or (lists_of bases) j [])
  analysed_at j l =
      let d = an_element bases j (inside j l) in
      subst (Analysed c budget j) (seen_at bases j d (inside j l))
      (are.analysed j d (omega (arith, l)))

  abbrev Ends : ℕ → List (Terms Fraction) → Type 0
  Ends j gs = InLoop c budget m j (λ left given.
      IsFinishedBy (loop_at c j) given m.entries last.rounds gs)

  done_at : Ends (length c.further) (get_or (lists_of bases) (length c.further) [])
  done_at =
      let l = inside (length c.further) (omega arith) in
      let d = an_element bases (length c.further) l in
      subst (Ends (length c.further)) (seen_at bases (length c.further) d l)
      (subst (λ j. Ends j (seen (get_or bases j d))) last_is (last.done d))

  have_found : HaveFound c budget m (lists_of bases)
  have_found = record {
    count = length-map bases seen ∙ are.count;
    formed = λ j l. are.formed j (omega (arith, l));
    analysed = analysed_at;
    rounds = last.rounds;
    done = done_at;
  }

  pub found_analysed : HasAnalysed c budget m
  found_analysed = record {
    place = length c.further;
    within = omega arith;
    worked = inl (loop_weaker c budget m (length c.further) _ _
        (λ left given f. inr (record { state = f.state; follows = f.follows })) done_at);
  }

  pub bases_over : (names : List (List ℕ)) → names ≡ c.first.names
      → All (λ (b : Vec FracPoly). AreOver (length names) b.items) bases
  bases_over names same = λ j d l.
      let e = are.count in
      subst (λ ns. AreOver (length ns) (get_or bases j d).items) (sym same)
      (are.over j d (omega (arith, e, l)))

  pub found_said : (r : Result made.Answer AllocError) (names : List (List ℕ))
      → names ≡ c.first.names
      → IfOk r (λ x. answer_view x
      ≡ with_text status.Yes (bases_text names 0 (lists_of bases)))
      → IfOk r (λ x. AreReadBack names (lists_of bases))
      → IfOk r (λ x. Analyses c budget m (answer_view x))
  found_said r names same told reads =
      if_ok_two _ _ _ r (λ x says read. record {
        ending = found (lists_of bases);
        ends = (have_found, subst (λ ns. AreReadBack ns (lists_of bases)) same read);
        says = ap Some (sym (says
            ∙ ap (λ ns. with_text status.Yes (bases_text ns 0 (lists_of bases))) same));
      }) told reads

-- ---- a refusal
module _ (c : Chain (Expr ℕ)) (budget : ℕ) (m : Journal) (j : ℕ) where
  -- nothing is done yet
  nothing_yet : (i : ℕ) → Reaches c budget i → m ≡ empty_journal budget → HasWorked c budget m i
  nothing_yet zero reached e = inl (record {
    left = budget;
    given = None;
    known = at_first;
    limit = ap (λ (j : Journal). j.limit) e;
    so = inl (ap (λ (j : Journal). j.entries) e);
  })
  nothing_yet (suc i) (gs, known) e = inr (record {
    place = i;
    is = refl;
    list = gs;
    analysed = known;
    limit = ap (λ (j : Journal). j.limit) e;
    so = inl (ap (λ (j : Journal). j.entries) e);
  })

  worked : Reaches c budget j → (e : LoopError) → IsRefusedAt c budget m j e
      → HasWorked c budget m j
  worked reached (loop_error.Analysis (error.Map e)) r = nothing_yet j reached r.0
  worked reached (loop_error.Analysis (error.Branch b e)) r = nothing_yet j reached r.0
  worked reached (loop_error.Analysis (error.Limit task)) r = inl (loop_weaker c budget m j _ _
      (λ left given h. inr (record { state = h.state; follows = h.follows })) r.1)
  worked reached (loop_error.Analysis (error.Wide task)) r = inl (loop_weaker c budget m j _ _
      (λ left given h. inr (record { state = h.state; follows = h.follows })) r.1)
  worked reached (loop_error.Analysis error.Budget) (formed, inl l) =
      inl (loop_weaker c budget m j _ _
      (λ left given h. inr (record { state = h.comes.state; follows = h.comes.follows })) l)
  worked reached (loop_error.Analysis error.Budget) (formed, inr l) =
      inr (code_weaker c budget m j _ _
      (λ gs h. inr (exhausted_mapped c.first gs m.entries (code_at c j) budget h)) l)
  worked reached (loop_error.Analysis error.Memory) r = r
  worked reached loop_error.Between r = inr (code_weaker c budget m j _ _
      (λ gs h. past_mapped c.first gs m.entries (code_at c j) h) r.1)

  -- the variables that are told
  names_at : (i : ℕ) → (loop_at c i).names ≡ c.first.names
  names_at zero = refl
  names_at (suc i) = refl

  named_at : (e : LoopError) → IsRefusedAt c budget m j e → AreNamedIn (length (loop_at c j).names)
      e
  named_at (loop_error.Analysis (error.Map e)) r = tt
  named_at (loop_error.Analysis (error.Branch b e)) r =
      named (loop_at c j) (empty_journal budget) (empty_journal budget) (error.Branch b e) (
        refl,
        (
          subst (λ n. IsFree n (maps_operations (loop_at c j))) (sym (ap length (names_at j)))
              (all_second (λ o. ¬ (PassesLimit (length c.first.names) o))
              (code_operations c.first (code_at c j))
              (maps_operations (loop_at c j)) free),
          r.1.1,
        ),
      )
    where
      free : IsFree (length c.first.names) (operations_at c j)
      free = subst (λ n. IsFree n (operations_at c j)) (ap length (names_at j)) r.1.0
  named_at (loop_error.Analysis (error.Limit task)) r = tt
  named_at (loop_error.Analysis (error.Wide task)) r = tt
  named_at (loop_error.Analysis error.Budget) r = tt
  named_at (loop_error.Analysis error.Memory) r = tt
  named_at loop_error.Between r = tt

module _ (c : Chain (Expr ℕ)) (budget : ℕ) (m : Journal) (r : Refused)
    (ends : IsRefusedIn c budget m r) where
  pub refused_analysed : HasAnalysed c budget m
  refused_analysed = record {
    place = r.place;
    within = ends.within;
    worked = worked c budget m r.place ends.reached r.error ends.refused;
  }

  pub refused_named : (names : List (List ℕ)) → names ≡ c.first.names
      → AreNamedIn (length names) r.error
  refused_named names same =
      subst (λ ns. AreNamedIn (length ns) r.error)
      (names_at c budget m r.place r.place ∙ sym same)
      (named_at c budget m r.place r.error ends.refused)

  pub refused_said : (x : Result made.Answer AllocError) (names : List (List ℕ))
      → names ≡ c.first.names
      → IfOk x (λ a. refused_answer names budget r ≡ Some (answer_view a))
      → IfOk x (λ a. Analyses c budget m (answer_view a))
  refused_said x names same told =
      IfOk-weaker x _ _ (λ a says. record {
        ending = refused r;
        ends = ends;
        says = subst (λ ns. refused_answer ns budget r ≡ Some (answer_view a)) same says;
      }) told
