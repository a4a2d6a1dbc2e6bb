-- Texts of bytes are read back, and are one line.
use Rattle.std.proofs.Common.{◌≡◌, ◌≢◌, ℕ, ◌==◌, ◌&&◌, if◌then◌else◌, true, false, not, List, [], ◌∷◌, ◌++◌, refl, ◌∙◌, inl, inr}
use Rattle.std.specs.List.{filter, list_all}
use Rattle.std.proofs.lemmas.Bool.{cases_eq, ne_eqb}
use Rattle.kc_text.specs.Compose.{texts}
use Rattle.kc_told.specs.Text.{byte_text}
use Rattle.kc_told.specs.TextLaws.{bytes_from}

-- a byte that stands for itself
record IsPlain (c : ℕ) : Type 0 where
  no_nul : c ≢ 0x0
  no_tab : c ≢ 0x9
  no_lf : c ≢ 0xa
  no_cr : c ≢ 0xd
  no_mark : c ≢ 0x22
  no_backslash : c ≢ 0x5c

at : (P : ℕ → Type 0) (c k : ℕ) → c ≡ k → P k → P c
at P c k same there = rw same there

-- what holds of these bytes and of each other one holds of all
of_all : (P : ℕ → Type 0) → P 0x0 → P 0x9 → P 0xa → P 0xd → P 0x22 → P 0x5c → ((c : ℕ) → IsPlain c → P c) → (c : ℕ) → P c
of_all P nul tab lf cr mark backslash others c = elim (cases_eq c 0x0) [
  | inl is ↦ at P c 0x0 is nul
  | inr n0 ↦ elim (cases_eq c 0x9) [
    | inl is ↦ at P c 0x9 is tab
    | inr n9 ↦ elim (cases_eq c 0xa) [
      | inl is ↦ at P c 0xa is lf
      | inr na ↦ elim (cases_eq c 0xd) [
        | inl is ↦ at P c 0xd is cr
        | inr nd ↦ elim (cases_eq c 0x22) [
          | inl is ↦ at P c 0x22 is mark
          | inr nq ↦ elim (cases_eq c 0x5c) [
            | inl is ↦ at P c 0x5c is backslash
            | inr nb ↦ others c (record { no_nul = n0; no_tab = n9; no_lf = na; no_cr = nd; no_mark = nq; no_backslash = nb })
          ]
        ]
      ]
    ]
  ]
]

plain_text : (c : ℕ) → IsPlain c → byte_text c ≡ c ∷ []
plain_text c p = rw (ne_eqb c 0x0 p.no_nul, ne_eqb c 0x9 p.no_tab, ne_eqb c 0xa p.no_lf, ne_eqb c 0xd p.no_cr, ne_eqb c 0x22 p.no_mark, ne_eqb c 0x5c p.no_backslash) refl

-- what one byte's text tells, before others
abbrev Tells : List ℕ → ℕ → Type 0
Tells rest c = bytes_from false (byte_text c ++ rest) ≡ (if c == 0x0 then bytes_from false rest else c ∷ bytes_from false rest)

plain_tells : (rest : List ℕ) (c : ℕ) → IsPlain c → Tells rest c
plain_tells rest c p = rw (plain_text c p) (rw (ne_eqb c 0x5c p.no_backslash, ne_eqb c 0x0 p.no_nul) refl)

tells : (rest : List ℕ) (c : ℕ) → Tells rest c
tells rest c = of_all (Tells rest) refl refl refl refl refl refl (plain_tells rest) c

some_kept : (c : ℕ) (cs rest : List ℕ) → rest ≡ filter (λ c. not (c == 0x0)) cs → (if c == 0x0 then rest else c ∷ rest) ≡ filter (λ c. not (c == 0x0)) (c ∷ cs)
some_kept c cs rest same = rw same (elim (cases_eq c 0x0) [
  | inl is ↦ rw is refl
  | inr other ↦ rw (ne_eqb c 0x0 other) refl
])

pub read_back : (bytes : List ℕ) → bytes_from false (texts byte_text bytes) ≡ filter (λ c. not (c == 0x0)) bytes
read_back [] = refl
read_back (c ∷ cs) = tells (texts byte_text cs) c ∙ some_kept c cs (bytes_from false (texts byte_text cs)) (read_back cs)

-- one byte's text before others
abbrev Goes : List ℕ → ℕ → Type 0
Goes rest c = list_all (λ c. not (c == 0xa)) (byte_text c ++ rest) ≡ list_all (λ c. not (c == 0xa)) rest

plain_goes : (rest : List ℕ) (c : ℕ) → IsPlain c → Goes rest c
plain_goes rest c p = rw (plain_text c p) (rw (ne_eqb c 0xa p.no_lf) refl)

goes : (rest : List ℕ) (c : ℕ) → Goes rest c
goes rest c = of_all (Goes rest) refl refl refl refl refl refl (plain_goes rest) c

pub one_line : (bytes : List ℕ) → list_all (λ c. not (c == 0xa)) (texts byte_text bytes) ≡ true
one_line [] = refl
one_line (c ∷ cs) = goes (texts byte_text cs) c ∙ one_line cs
