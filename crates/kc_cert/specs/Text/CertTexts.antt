-- The text of a certificate.
use Rattle.std.specs.Prelude.{◌≡◌, ◌↔◌, ℕ, ◌-◌, ◌<◌, ◌^◌, List, ◌++◌, codes, decimal, length, Result, Ok, Err, ⊤}
use Rattle.kc_text.specs.Format.{Format, IsPlace}
use Rattle.kc_text.specs.Readers.{decimal_below, hex16}
use Rattle.kc_text.specs.Compose.{both as ◌>>=◌, after as ◌>>◌, mapped, after, followed}
use Rattle.kc_text.specs.Text.{hex}
use Rattle.kc_cert.specs.declared.text.certificate.CertStep.{CertStep}
use Rattle.kc_cert.specs.declared.text.read.CertRead.{CertRead}
use Rattle.kc_cert.specs.declared.text.read.CertRead.TheVariants.{Z1, NoMemory}
use Rattle.kc_text.specs.Counted.{AreCounted, counted, counted_text, ended}

-- a number on a line
abbrev pub number_line : ℕ → List ℕ
number_line n = hex n ++ codes "\n"

abbrev pub list_text : List ℕ → List ℕ
list_text ns = codes "list " ++ counted_text number_line ns

abbrev pub step_text : CertStep → List ℕ
step_text s = codes "step " ++ decimal s.audit ++ codes " start " ++ hex s.start ++ codes " lists " ++ counted_text list_text s.lists

-- the text of a certificate
abbrev pub cert_text : List CertStep → List ℕ
cert_text steps = codes "certificate " ++ counted_text step_text steps

-- what a certificate keeps: its numbers fit, and there are fewer than 2^64 of each
abbrev pub IsList : List ℕ → Type 0
IsList = AreCounted (λ n. n < 2 ^ 64)

pub record IsStep (s : CertStep) : Type 0 where
  pub audit : s.audit < 2 ^ 32
  pub start : s.start < 2 ^ 64
  pub lists : AreCounted IsList s.lists

-- these bytes are the text of a certificate
pub record IsCertificate (bytes : List ℕ) (steps : List CertStep) : Type 0 where
  pub keeps : AreCounted IsStep steps
  pub spelled : bytes ≡ cert_text steps

-- these bytes begin the text of some certificate
abbrev pub BeginsCertificate : List ℕ → Type 0
BeginsCertificate front = (steps : List CertStep) × (tail : List ℕ) × IsCertificate (front ++ tail) steps

-- no certificate has these bytes as its text, and the place is where their longest front ends that begins some certificate's
pub record IsNoCertificate (bytes : List ℕ) (at : ℕ) : Type 0 where
  pub none : (steps : List CertStep) → IsCertificate bytes steps → ⊥
  pub place : IsPlace BeginsCertificate bytes at

abbrev pub IsRefused : CertRead → List ℕ → Type 0
IsRefused (Z1 at) bytes = IsNoCertificate bytes at
IsRefused NoMemory bytes = ⊤

-- the formats of the lines
abbrev pub line_format : Format ℕ
line_format = followed hex16 (codes "\n")

abbrev pub list_format : Format (List ℕ)
list_format = after (codes "list ") (counted line_format)

abbrev pub Parts : Type 0
Parts = ℕ × (ℕ × List (List ℕ))

abbrev pub step_of : Parts → CertStep
step_of (audit, (start, lists)) = record { audit = audit; start = start; lists = lists }

abbrev pub step_parts : Format Parts
step_parts = do
  codes "step "
  audit ← decimal_below (2 ^ 32) 32
  codes "start "
  start ← followed hex16 (codes " ")
  codes "lists "
  counted list_format

abbrev pub step_format : Format CertStep
step_format = mapped step_of IsStep step_text step_parts

abbrev pub steps_format : Format (List CertStep)
steps_format = after (codes "certificate ") (counted step_format)

abbrev pub cert_format : Format (List CertStep)
cert_format = ended steps_format

-- what reading a whole text comes to: what it is the text of, or the place where reading stopped
abbrev pub placed : {X : Type 0} → List ℕ → Result (X × List ℕ) (List ℕ) → Result X ℕ
placed bytes (Ok read) = Ok read.0
placed bytes (Err rest) = Err (length bytes - length rest)

-- the certificate that these bytes are the text of, or the place up to which they begin one's
abbrev pub cert_in : List ℕ → Result (List CertStep) ℕ
cert_in bytes = placed bytes (cert_format.read bytes)

-- reading answers it
abbrev pub ReadsCert : Result (List CertStep) ℕ → Result (List CertStep) CertRead → Type 0
ReadsCert said (Ok cert) = said ≡ Ok cert
ReadsCert said (Err (Z1 at)) = said ≡ Err at
ReadsCert said (Err NoMemory) = ⊤

-- what it is, in the words of texts: a certificate is read from exactly its text, and a place exactly where there is none
pub record TellsTexts (bytes : List ℕ) : Type 0 where
  pub cert : (steps : List CertStep) → cert_in bytes ≡ Ok steps ↔ IsCertificate bytes steps
  pub refused : (at : ℕ) → cert_in bytes ≡ Err at ↔ IsNoCertificate bytes at

abbrev pub TextsTold : Type 0
TextsTold = (bytes : List ℕ) → TellsTexts bytes
