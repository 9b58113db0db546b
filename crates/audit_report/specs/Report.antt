-- Document 01: 'prints `accepted N` (call lines) or `refused R line K`, then a newline'.
use Rattle.std.specs.Prelude.{ℕ, zero, suc, ◌+◌, ◌/◌, ◌%◌, cond, List, [], ◌∷◌, ◌++◌, ltb}
use Rattle.auditor.specs.Rules.{plain}
use Rattle.auditor.specs.Audit.{limited_audit_of}
use Rattle.auditor.specs.Verdicts.{Verdict, Accepted, Refused}

-- a number's decimal digits in ASCII, as few as hold it; at most the given number of them
unfoldable pub last_digits : ℕ → ℕ → List ℕ
last_digits zero n = []
last_digits (suc most) n = cond (ltb n 10) [] (last_digits most (n / 10)) ++ ((48 + n % 10) ∷ [])

-- a u64 has at most 20
abbrev pub decimal : ℕ → List ℕ
decimal n = last_digits 20 n

-- `accepted `, `refused `, ` line ` and the newline, in ASCII
abbrev pub accepted_text : List ℕ
accepted_text = 97 ∷ 99 ∷ 99 ∷ 101 ∷ 112 ∷ 116 ∷ 101 ∷ 100 ∷ 32 ∷ []

abbrev pub refused_text : List ℕ
refused_text = 114 ∷ 101 ∷ 102 ∷ 117 ∷ 115 ∷ 101 ∷ 100 ∷ 32 ∷ []

abbrev pub line_text : List ℕ
line_text = 32 ∷ 108 ∷ 105 ∷ 110 ∷ 101 ∷ 32 ∷ []

abbrev pub newline : List ℕ
newline = 10 ∷ []

abbrev pub says_accepted : ℕ → List ℕ
says_accepted n = accepted_text ++ decimal n ++ newline

abbrev pub says_refused : ℕ → ℕ → List ℕ
says_refused refusal index = refused_text ++ decimal refusal ++ line_text ++ decimal index ++ newline

-- the bytes that say a verdict
abbrev pub says : Verdict → List ℕ
says (Accepted n) = says_accepted n
says (Refused r k) = says_refused r k

-- what is printed for a sheet
abbrev pub report_of : List ℕ → List ℕ
report_of sheet = says (limited_audit_of plain sheet)
