-- The answers to faults of CERT.
--   certificate_refuses      they are refusals
use Rattle.std.proofs.Common.{◌≡◌, refl, sym, subst}
use Rattle.cert_form.specs.Form as form
use Rattle.io_edge.specs.Texts.{Answer}
use Rattle.io_edge.specs.Settled.{IsRefusing}
use Rattle.io_edge.proofs.OfStatuses.{status_of, refusing_fault}
use Rattle.certificate_commands.specs.CertificateTexts.{certificate_refusal}

by_fault : (fault : form.Fault) → IsRefusing (certificate_refusal fault).status
by_fault form.not_json = refusing_fault _ refl
by_fault (form.shape path) = refusing_fault _ refl
by_fault (form.polynomial path) = refusing_fault _ refl

pub certificate_refuses : (fault : form.Fault) (a : Answer) → a ≡ certificate_refusal fault
    → IsRefusing a.status
certificate_refuses fault a e = subst IsRefusing (sym (status_of e)) (by_fault fault)
