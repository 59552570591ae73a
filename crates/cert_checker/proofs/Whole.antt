-- The verdict on the certificate itself, whose identities are the first parts of the full certificate, and what stops the others.
--   all_hold                       where the certificate is valid and the others hold, all do
--   first_of, wide_of              the first part that doesn't hold, or that is too wide
--   start_first, step_first        an identity of the certificate as such a part
--   identity_wide                  so where it is too wide
--   further_behind                 a part behind the certificate
--   failing_verdict                the verdict on a part
--   wide_refused, limit_refused, refusal     the causes of the refusals;  long_part: of a part behind the certificate
--   start_invalid, step_invalid    where an identity fails, the certificate isn't valid
use Rattle.std.proofs.Common.{◌≡◌, ℕ, ◌<◌, List, [], ◌++◌, map, flat_map, length, inl, inr, refl, sym, ap, subst, ◌∙◌, append_assoc}
use Rattle.std.proofs.lemmas.List.{append-nil}
use Rattle.algebra.specs.Each.{Each}
use Rattle.algebra.proofs.Each.{each-append}
use Rattle.exponentials.specs.Table.{numbers}
use Rattle.loops.specs.Program.{Expr, Program}
use Rattle.loops.specs.Certificate.{IsValid, PassesStart, PassesStep, IsFirstStart, IsFirstStep}
use Rattle.loop_model.specs.declared.map_error.MapError.TheVariants as map_error
use Rattle.loop_model.specs.Maps.{AreFree}
use Rattle.corollaries.specs.Full.{FullCertificate, certificate}
use Rattle.corollaries.specs.Parts.{Part, in_basis, in_steps, Holds, basis_parts, step_parts, parts, AllHold, IsFirst}
use Rattle.cert_checker.specs.Places.{Place, at_start, in_branch}
use Rattle.cert_checker.specs.Views.{place_view}
use Rattle.cert_checker.specs.Wide.{WideIdentity, IfCheckRefused as IfRefusedItself}
use Rattle.cert_checker.specs.declared.error.CheckError.{CheckError}
use Rattle.cert_checker.specs.declared.error.CheckError.TheVariants as check_error
use Rattle.cert_checker.specs.Further.{further_parts}
use Rattle.cert_checker.specs.Paths.{path_of}
use Rattle.cert_checker.specs.FullStops.{Behind}
use Rattle.cert_checker.specs.FullWide.{IsPastPart, IsWide, IsLong, IsLimitAt, IsWideAt, IsRefusalOf, identity_part, IfFullCheckRefused}
use Rattle.cert_checker.specs.LongParts.{IsFirstBeyond, part_terms}
use Rattle.cert_checker.specs.Verdicts.{IsFailing, IsVerdictOf}
use Rattle.cert_checker.specs.declared.full_verdict.FullVerdict.{FullVerdict}
use Rattle.cert_checker.specs.declared.full_verdict.FullVerdict.TheVariants.{Complete, Fails}
use Rattle.cert_checker.specs.declared.full_error.FullError.{FullError}
use Rattle.cert_checker.specs.declared.full_error.FullError.TheVariants.{Map, Limit, Wide, Memory}
use Rattle.cert_checker.proofs.Stopping.{behind_in, numbers_hold, numbered, all_of_several, behind_several}

module _ (program : Program (Expr ℕ)) (c : FullCertificate) where
  abbrev P : Part → Type 0
  P = Holds program c

  abbrev steps_of : ℕ → List Part
  steps_of b = map (in_steps b) (numbers 0 (length c.basis))

  -- ---- the certificate is valid
  basis_holds : ((i : ℕ) → i < length c.basis → PassesStart program (certificate c) i)
      → Each P (basis_parts program c)
  basis_holds h = numbers_hold P in_basis (length c.basis) h

  steps_hold : (n : ℕ) → ((b i : ℕ) → b < n → i < length c.basis
      → PassesStep program (certificate c) b i) → Each P (flat_map steps_of (numbers 0 n))
  steps_hold n h = all_of_several P steps_of n (λ b k.
      numbers_hold P (in_steps b) (length c.basis) (λ i l. h b i k l))

  valid_holds : IsValid program (certificate c)
      → Each P (basis_parts program c ++ step_parts program c)
  valid_holds v = each-append P (basis_parts program c) (step_parts program c)
      (basis_holds v.starts)
      (steps_hold (length program.branches) v.steps)

  in_order : parts program c ≡ (basis_parts program c ++ step_parts program c)
      ++ (further_parts program c ++ [])
  unfolding parts
  in_order = ap (λ ps. basis_parts program c ++ (step_parts program c ++ ps))
      (sym (append-nil (further_parts program c)))
      ∙ sym (append_assoc (basis_parts program c) (step_parts program c)
      (further_parts program c ++ []))

  pub all_hold : IsValid program (certificate c) → Each P (further_parts program c)
      → AllHold program c
  all_hold v h = record {
    each = subst (Each P) (sym in_order)
        (each-append P _ _ (valid_holds v)
        (subst (Each P) (sym (append-nil (further_parts program c))) h));
  }

  -- ---- behind it
  pub further_behind : IsValid program (certificate c) → (part : Part) (W : Type 0)
      → Behind P (further_parts program c) part W → Behind P (parts program c) part W
  further_behind v part W b = behind_in P _ [] W in_order (valid_holds v) b

  pub first_of : {part : Part} → Behind P (parts program c) part (P part → ⊥)
      → IsFirst program c part
  first_of b = record {
    earlier = b.earlier;
    later = b.later;
    is = b.is;
    holds = b.holds;
    fails = b.cause;
  }

  pub wide_of : (part : Part) → Behind P (parts program c) part (IsPastPart program c part)
      → IsWide program c (path_of part)
  wide_of part b = record { part = part; at = refl; is = b }

  -- ---- within it
  start_behind : (i : ℕ) (W : Type 0) → i < length c.basis → ((j : ℕ) → j < i
      → PassesStart program (certificate c) j) → W → Behind P (parts program c) (in_basis i) W
  unfolding parts Each
  start_behind i W l h w = behind_in P [] _ W refl tt
      (numbered P in_basis i W (record { within = l; before = h; cause = w }))

  step_behind : (b i : ℕ) (W : Type 0) → b < length program.branches → i < length c.basis
      → ((j : ℕ) → j < length c.basis → PassesStart program (certificate c) j)
      → ((a j : ℕ) → a < b → j < length c.basis → PassesStep program (certificate c) a j)
      → ((j : ℕ) → j < i → PassesStep program (certificate c) b j) → W
      → Behind P (parts program c) (in_steps b i) W
  unfolding parts
  step_behind b i W k l starts earlier before w = behind_in P
      (basis_parts program c) (further_parts program c) W refl (basis_holds starts)
      (behind_several P steps_of (length program.branches) b k (steps_hold b earlier) (in_steps b i)
      W (numbered P (in_steps b) i W
      (record { within = l; before = before; cause = w })))

  pub start_first : (i : ℕ) → IsFirstStart program (certificate c) i
      → IsFirst program c (in_basis i)
  start_first i v = first_of (start_behind i (P (in_basis i) → ⊥) v.within v.before v.fails)

  pub step_first : (b i : ℕ) → IsFirstStep program (certificate c) b i
      → IsFirst program c (in_steps b i)
  step_first b i v = first_of (step_behind b i (P (in_steps b i) → ⊥)
      v.branch_within v.within v.starts v.branches_before v.before v.fails)

  identity_wide : (place : Place) (i : ℕ) → WideIdentity program (certificate c) place i
      → IsWide program c (path_of (identity_part place i))
  identity_wide at_start i w = wide_of (in_basis i) (start_behind i
      (IsPastPart program c (in_basis i)) w.within w.before
      (record { images = w.images; is = w.is; past = w.past }))
  identity_wide (in_branch b) i w = wide_of (in_steps b i) (step_behind b i
      (IsPastPart program c (in_steps b i)) w.branch_within w.within w.starts w.branches_before
      w.before (record { images = w.images; is = w.is; past = w.past }))

  -- ---- refusals
  pub wide_refused : {path : List ℕ} (r : FullError) → AreFree program → IsWide program c path
      → IsWideAt path r → IfFullCheckRefused program c r
  wide_refused (Map e) free w is = absurd is
  wide_refused (Limit at) free w is = absurd is
  wide_refused (Wide at) free w is = (free, subst (IsWide program c) (sym is) w)
  wide_refused Memory free w is = tt

  pub limit_refused : {path : List ℕ} (r : FullError) → AreFree program → IsLong program c path
      → IsLimitAt path r → IfFullCheckRefused program c r
  limit_refused (Map e) free w is = absurd is
  limit_refused (Limit at) free w is = (free, subst (IsLong program c) (sym is) w)
  limit_refused (Wide at) free w is = absurd is
  limit_refused Memory free w is = tt

  pub long_part : (part : Part) → IsValid program (certificate c)
      → IsFirstBeyond (part_terms program c) 0 (further_parts program c) part
      → IsLong program c (path_of part)
  long_part part v first = inr (record { part = part; at = refl; valid = v; first = first })

  -- where an identity fails, the certificate isn't valid
  pub start_invalid : (i : ℕ) → IsFirstStart program (certificate c) i
      → IsValid program (certificate c) → ⊥
  start_invalid i v valid = v.fails (valid.starts i v.within)

  pub step_invalid : (b i : ℕ) → IsFirstStep program (certificate c) b i
      → IsValid program (certificate c) → ⊥
  step_invalid b i v valid = v.fails (valid.steps b i v.branch_within v.within)

  pub refusal : (e : CheckError) (r : FullError) → IfRefusedItself program (certificate c) e
      → IsRefusalOf e r → IfFullCheckRefused program c r
  refusal (check_error.Map (map_error.Limit at)) r h is = subst (IfFullCheckRefused program c)
      (sym is) h
  refusal (check_error.Map (map_error.Wide at)) r h is = subst (IfFullCheckRefused program c)
      (sym is) h
  refusal (check_error.Map map_error.Memory) r h is = absurd h
  refusal (check_error.Limit place i) r h is =
      limit_refused r h.0
      (inl (record { place = place_view place; element = i; at = refl; is = h.1 })) is
  refusal (check_error.Wide place i) r h is =
      wide_refused r h.0 (identity_wide (place_view place) i h.1) is
  refusal check_error.Memory r h is = subst (IfFullCheckRefused program c) (sym is) tt

-- the verdict on a part
pub failing_verdict : (program : Program (Expr ℕ)) (c : FullCertificate) (part : Part)
    → IsFirst program c part → (v : FullVerdict) → IsFailing (path_of part) v
    → IsVerdictOf program c v
failing_verdict program c part first Complete is = absurd is
failing_verdict program c part first (Fails at) is = (part, sym is, first)
