-- What the divisions behind a closing end with is told.
--   polynomials_over     lists of polynomials of the program
--   proved_answered, unproved_answered     how they end
--   proved_begun, unproved_begun     the entries follow them
use Rattle.std.proofs.Common.{◌≡◌, ◌⊎◌, inl, inr, ℕ, ◌≤◌, List, [], ◌∷◌, length, get_or, sym, ap, subst, ◌∙◌, Ok, Err, Result}
use Rattle.std.specs.Prelude.{Some, IfOk}
use Rattle.std.specs.Global.{Vec}
use Rattle.std.specs.declared.alloc.AllocError.{AllocError}
use Rattle.std.proofs.lemmas.Result.{IfOk-weaker}
use Rattle.std.proofs.lemmas.List.{length-map}
use Rattle.std.proofs.lemmas.List.Elements.{All-head, All-tail, All-map}
use Rattle.algebra.specs.Each.{Each}
use Rattle.algebra.specs.Fraction.{Fraction, ℚ}
use Rattle.polynomials.specs.Order.{grevlex}
use Rattle.polynomials.specs.Polynomial.{IsPolynomial}
use Rattle.polynomials.specs.Terms.{Terms}
use Rattle.machines.specs.Journal.{Journal}
use Rattle.loops.specs.Program.{Expr, Program}
use Rattle.poly.specs.Seen.{terms_in, terms_each}
use Rattle.poly.proofs.Standing.{polynomial_over}
use Rattle.loop_model.specs.FracPoly.{FracPoly}
use Rattle.cert_form.specs.Form.{cert_in, most_elements, ReadsAs}
use Rattle.ideal_ops.specs.Calls.{AreOver}
use Rattle.closures.specs.Closing.{closed}
use Rattle.closures.specs.Ends.{ComesNext}
use Rattle.closures.specs.Proving.{dividing}
use Rattle.closures.proofs.Certified.{proof_valid}
use Rattle.closing.specs.Proving.{certificate_of, seen_rows, FitsProof, HasProof, IfUnproved}
use Rattle.closing.specs.declared.proving.ClosureProof.{ClosureProof}
use Rattle.closing.specs.declared.proving.ProvingError.{ProvingError}
use Rattle.closing.specs.declared.proving.ProvingError.TheVariants as proving_error
use Rattle.io_edge.specs.declared.answer.Answer as made
use Rattle.io_edge.specs.Texts.{Answer}
use Rattle.io_edge.specs.Views.{answer_view}
use Rattle.io_edge.proofs.OfStatuses.{no_answer, some_answer, status_of, text_of}
use Rattle.closing_commands.specs.Rows.{HasRows}
use Rattle.closing_commands.specs.ProvedLists.{AreBegun, TellsProof, TellsProving}
use Rattle.command_parts.specs.FaultTexts.{exhausted_answer}
use Rattle.closing_commands.specs.ProvedTexts.{certificate_answer, wide_test_answer}
use Rattle.closing_commands.specs.ProvedViews.{proving_answer}

pub polynomials_over : (m : ℕ) (ps : List FracPoly) → AreOver m ps
    → Each (IsPolynomial ℚ grevlex m) (terms_each ps)
unfolding Each
polynomials_over m [] a = tt
polynomials_over m (p ∷ ps) a = (
  polynomial_over m p (All-head (λ x. x.arity ≡ m) p ps a),
  polynomials_over m ps (All-tail (λ x. x.arity ≡ m) p ps a),
)

module _ (l : Program (Expr ℕ)) (P gs : List (Terms Fraction)) (m : Journal) where
  module _ (ps : Each (IsPolynomial ℚ grevlex (length l.names)) P) (names : List (List ℕ))
      (same : names ≡ l.names) (d : ClosureProof) (h : HasProof l P gs m.entries d)
      (fits : FitsProof (length l.names) d) where
    rows_are : HasRows l (certificate_of d)
    rows_are = record {
      branches = length-map d.steps.items _ ∙ h.count;
      elements =
          All-map (λ rows. length rows ≡ length (certificate_of d).basis)
          (λ (rows : Vec (Vec FracPoly)). seen_rows rows.items) d.steps.items
          (λ b r less. length-map (get_or d.steps.items b r).items _
          ∙ (fits.squares b r less).height ∙ sym (length-map d.list.items terms_in));
    }

    proved_told : (a : Answer) → a ≡ certificate_answer names (certificate_of d)
        → (length (certificate_of d).basis ≤ most_elements
        → ReadsAs (cert_in names (length (certificate_of d).steps) a.text) (certificate_of d))
        → TellsProof l P gs m a
    proved_told a says back = record {
      ends = record { elements = _; listed = h.list; over = h.ends };
      shows = record {
        certificate = certificate_of d;
        listed = h.list;
        places = h.places;
        proof = h.proof;
        rows = rows_are;
        identities =
            proof_valid l P ps h.ends.follows.before gs h.ends.follows.closes h.places
            (certificate_of d) h.proof;
        reads_back = λ few.
            subst (λ ns. ReadsAs (cert_in ns (length l.branches) a.text) (certificate_of d)) same
            (subst (λ k. ReadsAs (cert_in names k a.text) (certificate_of d))
            rows_are.branches (back few));
        says = text_of says ∙ ap (λ ns. (certificate_answer ns (certificate_of d)).text) same;
      };
      yes = status_of says;
    }

    pub proved_answered : (n : ℕ) (r : Result made.Answer AllocError)
        → IfOk r (λ a. answer_view a ≡ certificate_answer names (certificate_of d))
        → IfOk r (λ a. length (certificate_of d).basis ≤ most_elements
        → ReadsAs (cert_in names (length (certificate_of d).steps) (answer_view a).text)
        (certificate_of d))
        → IfOk r (λ a. TellsProving l P gs m n (answer_view a))
    proved_answered n (Ok a) says back = inl (proved_told (answer_view a) says back)
    proved_answered n (Err e) says back = tt

  pub proved_begun : (d : ClosureProof) → HasProof l P gs m.entries d
      → ComesNext l P m.entries (closed gs) ⊎ AreBegun l P m.entries gs
  proved_begun d h = inr (record {
    elements = _;
    listed = h.list;
    state = h.ends.state;
    follows = h.ends.follows;
  })

  test_told : (n : ℕ) (e : ProvingError) → IfUnproved l P gs m.limit m.entries e → (a : Answer)
      → proving_answer n e ≡ Some a → TellsProving l P gs m n a
  test_told n (proving_error.Wide b i) s a says = inr (inl (record {
    branch = b;
    number = i;
    is = record {
      elements = s.list;
      listed = s.is;
      test = s.stopped.test;
      is_branch = s.stopped.is_branch;
      is_number = s.stopped.is_number;
      past = s.stopped.past;
    };
    says = some_answer (wide_test_answer b i) a says;
  }))
  test_told n proving_error.Budget s a says = inr (inr (
    record { elements = s.list; listed = s.is; out = s.stopped },
    some_answer (exhausted_answer n) a says,
  ))
  test_told n proving_error.Memory s a says = absurd (no_answer a says)

  pub unproved_answered : (n : ℕ) (r : Result made.Answer AllocError) (e : ProvingError)
      → IfUnproved l P gs m.limit m.entries e
      → IfOk r (λ a. proving_answer n e ≡ Some (answer_view a))
      → IfOk r (λ a. TellsProving l P gs m n (answer_view a))
  unproved_answered n r e stops says =
      IfOk-weaker r _ _ (λ a is. test_told n e stops (answer_view a) is) says

  pub unproved_begun : (e : ProvingError) → IfUnproved l P gs m.limit m.entries e
      → ComesNext l P m.entries (closed gs) ⊎ AreBegun l P m.entries gs
  unproved_begun (proving_error.Wide b i) s = inr (record {
    elements = s.list;
    listed = s.is;
    state = dividing s.stopped.test s.stopped.past.waiting s.stopped.past.state;
    follows = s.stopped.past.follows;
  })
  unproved_begun proving_error.Budget s = inr (record {
    elements = s.list;
    listed = s.is;
    state = s.stopped.state;
    follows = s.stopped.follows;
  })
  unproved_begun proving_error.Memory (inl c) = inl c
  unproved_begun proving_error.Memory (inr s) = inr (record {
    elements = s.list;
    listed = s.is;
    state = s.stopped.state;
    follows = s.stopped.follows;
  })
