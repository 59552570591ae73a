-- By what a search stops.
--   begun_at, begun_sample     the entries of parts are the beginning of a search's, and so with another sample begun
--   begun_part                 and those of a closing so far, or a beginning of them, behind
--   stops_going                where a closing stops its entries follow it
--   closing_stops              a closing's refusal as the search's
use Rattle.std.proofs.Common.{◌≡◌, inl, inr, ℕ, ◌+◌, List, [], ◌∷◌, ◌++◌, length, refl, sym, ap, subst, ◌∙◌}
use Rattle.std.proofs.lemmas.List.{append-nil, append_assoc}
use Rattle.algebra.specs.Fraction.{Fraction}
use Rattle.polynomials.specs.Terms.{Terms}
use Rattle.machines.specs.Journal.{Entry, Begin, Sample, units_of}
use Rattle.loops.specs.Program.{Expr, Program}
use Rattle.loop_model.specs.Operations.{Operation}
use Rattle.closures.specs.Closing.{Candidate}
use Rattle.closing.specs.Causes.{IsComposing}
use Rattle.closing.specs.Progress.{IsGoing, IfStops}
use Rattle.closing.specs.declared.error.ClosingError.{ClosingError}
use Rattle.closing.specs.declared.error.ClosingError.TheVariants as closing_error
use Rattle.closing.specs.SearchCauses.{IsClosing, AreBegun}
use Rattle.closing.specs.Closings.{refusal_of}
use Rattle.closing.specs.Found.{IsPartOf, IfSearchStops}
use Rattle.closing.specs.Search.{Part, samples_of, entries_of, GoesOn, monomials, IsSearch}

module _ (program : Program (Expr ℕ)) (d : ℕ) where
  module _ (ps : List Part) (s : IsSearch program d ps) where
    pub begun_at : AreBegun program d (entries_of ps)
    begun_at = record {
      parts = ps;
      search = s;
      behind = [];
      follows = inl refl;
      more = [];
      order = refl;
    }

    pub begun_sample : GoesOn (length (monomials program d)) ps
        → AreBegun program d (entries_of ps ++ Begin (Sample (samples_of ps)) ∷ [])
    begun_sample g = record {
      parts = ps;
      search = s;
      behind = Begin (Sample (samples_of ps)) ∷ [];
      follows = inr (inl (g, refl));
      more = [];
      order = append-nil (entries_of ps ++ Begin (Sample (samples_of ps)) ∷ []);
    }

  module _ {before : List Entry} {ps : List Part} (gs : List (Terms Fraction))
      (c : IsClosing program d before ps gs) where
    pub begun_part : (part : List Entry) {after : List Entry} → IsGoing program gs part
        → IsPartOf before part after → AreBegun program d after
    begun_part part g p = record {
      parts = ps;
      search = c.search;
      behind = part;
      follows =
          inr (inr (gs, subst (λ es. IsClosing program d es ps gs) c.entries c, g));
      more = p.more;
      order =
          ap (λ es. es ++ p.more) p.after_is
          ∙ (append_assoc before p.taken p.more
          ∙ (ap (λ es. before ++ es) (sym p.part_is)
          ∙ ap (λ es. es ++ part) c.entries));
    }

    composing_going : (part : List Entry) {x : Candidate} {os : List Operation}
        → IsComposing program gs part x os → IsGoing program gs part
    composing_going part (inl h) =
        let n = h.comes in record { state = n.state; follows = record { run = n.run } }
    composing_going part (inr h) = let r = h.has in record { state = _; follows = r.follows }

    pub stops_going : (limit : ℕ) (part : List Entry) (e : ClosingError)
        → IfStops program gs limit part e → IsGoing program gs part
    stops_going limit part (closing_error.Limit w) s =
        let l = s.cause in composing_going part l.composing
    stops_going limit part (closing_error.Wide w) s = elim s.cause [
      | inl l ↦ composing_going part l.composing
      | inr p ↦ record { state = p.state; follows = p.follows }
    ]
    stops_going limit part closing_error.Budget s =
        record { state = s.state; follows = s.follows }
    stops_going limit part closing_error.Memory s = s

    whole : (part : List Entry) → IsPartOf before part (before ++ part)
    whole part = record {
      taken = part;
      more = [];
      part_is = sym (append-nil part);
      after_is = refl;
    }

    pub closing_stops : (limit n : ℕ) (part : List Entry) → units_of before + limit ≡ n
        → (e : ClosingError) → IfStops program gs limit part e
        → AreBegun program d (before ++ part)
        × IfSearchStops program d n (before ++ part) (refusal_of e)
    closing_stops limit n part rest e s =
        let b = begun_part part (stops_going limit part e s) (whole part) in
        (b, cause e s)
      where
        cause : (e : ClosingError) → IfStops program gs limit part e
            → IfSearchStops program d n (before ++ part) (refusal_of e)
        cause (closing_error.Limit w) s = record {
          before = before;
          parts = ps;
          elements = gs;
          closing = c;
          behind = part;
          order = refl;
          cause = s;
        }
        cause (closing_error.Wide w) s = record {
          before = before;
          parts = ps;
          elements = gs;
          closing = c;
          behind = part;
          order = refl;
          cause = s;
        }
        cause closing_error.Budget s = inr (record {
          before = before;
          parts = ps;
          elements = gs;
          closing = c;
          behind = part;
          order = refl;
          cause = (limit, s, rest);
        })
        cause closing_error.Memory s =
            begun_part part s (whole part)
