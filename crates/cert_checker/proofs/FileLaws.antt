-- What is written of a certificate.
--   same_in_file    the certificate that its file is read as has its own polynomials
use Rattle.std.proofs.Common.{◌≡◌, ℕ, List, ◌++◌, length, sym, subst, ◌∙◌}
use Rattle.loops.specs.Certificate.{Certificate, SameCertificate}
use Rattle.cert_form.specs.Form.{cert_in, ReadsAs}
use Rattle.cert_form.specs.Written.{AreBlanks}
use Rattle.cert_form.proofs.ReadingBack.{without_blanks, told_so, same_again}

pub same_in_file : {names : List (List ℕ)} (ns ms : List (List ℕ)) (n : ℕ) (text bytes : List ℕ)
    {kept : Certificate} (c : Certificate)
    → ns ≡ names → ms ≡ names → length c.steps ≡ n → bytes ≡ text
    → ((blanks : List ℕ) → AreBlanks blanks → ReadsAs (cert_in ns (length c.steps) (text ++ blanks))
    c)
    → ReadsAs (cert_in ms n bytes) kept → SameCertificate kept c
same_in_file ns ms n text bytes {kept = kept} c first second count same written read =
    same_again (cert_in ms n bytes) kept c read
    (subst (λ xs. ReadsAs (cert_in xs n bytes) c) (first ∙ sym second)
    (told_so ns (length c.steps) n text bytes c count same (without_blanks ns (length c.steps)
    c text written)))
