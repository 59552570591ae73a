-- Where a part of a full certificate is too wide, and the causes of refusals.
--   IsWideAt path e                e tells that the part with this path is too wide; want of memory is free
--   identity_part place i          the part that this identity of the certificate itself is
--   IsRefusalOf e r                r is the refusal e of the certificate itself
--   IsPastOfMap program maps W     W of the polynomials of a map of the program, with their terms in descending order
--   IsPastBegun program c r b kind i     of making polynomial i that a stage begins with
--   IsPastPart program c part      of an operation of the part
--   IsWide program c path          so it is of the part with this path, and those before it hold
--   IsLongIdentity program c path     the part with this path is an identity of the certificate itself that is too long
--   IsLong program c path          so it is, or the part is the first behind the certificate up to which those behind it multiply out to too many terms
--   IsLimitAt path e               e tells so of the part with this path; want of memory is free
--   IsUnformed m os e              e is one of the operations os that can't be done
--   IfFullCheckRefused program c e          the cause of the refusal e: a map of the loop can't be formed, or a part is too long or too wide; want of memory is free
use Rattle.std.specs.Prelude.{◌≡◌, ◌⊎◌, ℕ, List, [], get_or, length, string_bytes}
use Rattle.algebra.specs.Fraction.{Fraction}
use Rattle.polynomials.specs.Terms.{Terms}
use Rattle.loops.specs.Program.{Expr, Program}
use Rattle.loops.specs.Map.{start_map, branch_map}
use Rattle.rounds.specs.Form.{inverse_of_form}
use Rattle.loop_model.specs.Operations.{Operation, IsLimit, IsWide as IsWideOperation}
use Rattle.loop_model.specs.declared.map_error.MapError.{MapError}
use Rattle.loop_model.specs.declared.map_error.MapError.TheVariants as map_error
use Rattle.loop_model.specs.Maps.{maps_operations, AreFree}
use Rattle.cert_checker.specs.Passing.{IsPastForm}
use Rattle.task_lists.specs.Past.{IsPastCombination}
use Rattle.task_lists.specs.Starting.{IsPastOrbit}
use Rattle.cert_checker.specs.Identities.{StartIsPast, StepIsPast}
use Rattle.cert_checker.specs.Places.{Place, at_start, in_branch}
use Rattle.cert_checker.specs.Views.{place_view}
use Rattle.cert_checker.specs.Wide.{IsMapOf, LongIdentity}
use Rattle.cert_checker.specs.declared.error.CheckError.{CheckError}
use Rattle.cert_checker.specs.declared.error.CheckError.TheVariants as check_error
use Rattle.corollaries.specs.Full.{FullCertificate, certificate, Kind, orbit, meet, form_of, stage_of, before}
use Rattle.corollaries.specs.Parts.{Part, in_basis, in_steps, in_forms, in_start, in_round, at_end, Holds, parts}
use Rattle.cert_checker.specs.LongParts.{IsLongPart}
use Rattle.cert_checker.specs.Paths.{path_of}
use Rattle.cert_checker.specs.StageParts.{NeverPast, IsPastPlace}
use Rattle.cert_checker.specs.FullStops.{Behind}
use Rattle.cert_checker.specs.declared.full_error.FullError.{FullError}
use Rattle.cert_checker.specs.declared.full_error.FullError.TheVariants.{Map, Limit, Wide, Memory}

pub record IsPastOfMap (m : ℕ) (maps : List (Terms Fraction)) (W : List (Terms Fraction)
    → Type 0) : Type 0 where
  pub images : List (Terms Fraction)
  pub is : IsMapOf m images maps
  pub past : W images

module _ (program : Program (Expr ℕ)) (c : FullCertificate) where
  abbrev pub IsPastBegun : ℕ → ℕ → Kind → ℕ → Type 0
  IsPastBegun r b orbit i = IsPastOrbit (inverse_of_form (form_of c b)) (before program c r) i
  IsPastBegun r b meet i = NeverPast i

  abbrev pub IsPastPart : Part → Type 0
  IsPastPart (in_basis e) = IsPastOfMap (length program.names) (start_map program)
      (λ images. StartIsPast c.basis images e)
  IsPastPart (in_steps b e) = IsPastOfMap (length program.names)
      (branch_map program (get_or program.branches b []))
      (λ images. StepIsPast c.basis images (get_or c.steps b []) e)
  IsPastPart (in_forms b) = IsPastOfMap (length program.names)
      (branch_map program (get_or program.branches b []))
      (λ images. IsPastForm images (length program.names) (form_of c b))
  IsPastPart (in_start i) = IsPastCombination (get_or c.start_links i []) c.start_out
  IsPastPart (in_round r b kind place) =
      IsPastPlace (IsPastBegun r b kind) (stage_of c r b kind) place
  IsPastPart at_end = ⊥

  pub record IsWide (path : List ℕ) : Type 0 where
    pub part : Part
    pub at : path_of part ≡ path
    pub is : Behind (Holds program c) (parts program c) part (IsPastPart part)

abbrev pub identity_part : Place → ℕ → Part
identity_part at_start i = in_basis i
identity_part (in_branch b) i = in_steps b i

pub record IsLongIdentity (program : Program (Expr ℕ)) (c : FullCertificate) (path : List ℕ) : Type
    0 where
  pub place : Place
  pub element : ℕ
  pub at : path_of (identity_part place element) ≡ path
  pub is : LongIdentity program (certificate c) place element

abbrev pub IsLong : Program (Expr ℕ) → FullCertificate → List ℕ → Type 0
IsLong program c path = IsLongIdentity program c path ⊎ IsLongPart program c path

abbrev pub IsUnformed : ℕ → List Operation → MapError → Type 0
IsUnformed m os (map_error.Limit at) = IsLimit m os at
IsUnformed m os (map_error.Wide at) = IsWideOperation m os at
IsUnformed m os map_error.Memory = ⊥

abbrev pub IfFullCheckRefused : Program (Expr ℕ) → FullCertificate → FullError → Type 0
IfFullCheckRefused program c (Map e) = IsUnformed (length program.names) (maps_operations program) e
IfFullCheckRefused program c (Limit path) = AreFree program × IsLong program c (string_bytes path)
IfFullCheckRefused program c (Wide path) = AreFree program × IsWide program c (string_bytes path)
IfFullCheckRefused program c Memory = Unit {0}

abbrev pub IsWideAt : List ℕ → FullError → Type 0
IsWideAt path (Map e) = ⊥
IsWideAt path (Limit at) = ⊥
IsWideAt path (Wide at) = string_bytes at ≡ path
IsWideAt path Memory = Unit {0}

abbrev pub IsLimitAt : List ℕ → FullError → Type 0
IsLimitAt path (Map e) = ⊥
IsLimitAt path (Limit at) = string_bytes at ≡ path
IsLimitAt path (Wide at) = ⊥
IsLimitAt path Memory = Unit {0}

abbrev pub IsRefusalOf : CheckError → FullError → Type 0
IsRefusalOf (check_error.Map e) r = r ≡ Map e
IsRefusalOf (check_error.Limit place i) r =
    IsLimitAt (path_of (identity_part (place_view place) i)) r
IsRefusalOf (check_error.Wide place i) r =
    IsWideAt (path_of (identity_part (place_view place) i)) r
IsRefusalOf check_error.Memory r = r ≡ Memory
