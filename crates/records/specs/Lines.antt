-- docs/RULES.md, 16.6 to 16.9: the lines of the output, as bytes.
--
--   ascii t          == the bytes of the text t
--   decimal n        == the digits of n, the highest first: no leading zero, and 0 is "0"
--   field t n        == the text t, then the digits of n
--   fields vs        == the numbers vs, each after a space
--   refused_line n r == job N: refused R
--   route_line n cost routes points kept == job N: cost C routes T points P kept K
--   at_line vs       == at V1 V2 .., the vertices vs with one space between and none at the end
--   bad_line k       == bad record at K
--   kept_of k ps vs  == the elements of vs at the first k positions of ps
--
-- Each line ends with the byte 0A hex, "\n".
use Rattle.std.specs.Prelude.{ℕ, zero, suc, ◌+◌, ◌/◌, ◌%◌, true, false, List, [], ◌∷◌, ◌++◌, ltb, get_or}
use Prim.Native.String.{String, [] as []ˢ, ◌∷◌ as ◌∷ˢ◌}
use Prim.Native.Char.{code}
use Rattle.basics.specs.Lists.{tabulate}

abbrev pub ascii : String → List ℕ
ascii []ˢ = []
ascii (c ∷ˢ t) = code c ∷ ascii t

-- At most f digits before the last, which is enough where n ≤ f: n / 10 is less than n, and 0 has one digit.
unfoldable pub digits : ℕ → ℕ → List ℕ
digits zero n = (48 + n) ∷ []
digits (suc f) n = elim (ltb n 10) [ true ↦ (48 + n) ∷ [] | false ↦ digits f (n / 10) ++ ((48 + n % 10) ∷ []) ]

unfoldable pub decimal : ℕ → List ℕ
decimal n = digits n n

abbrev pub field : String → ℕ → List ℕ
field t n = ascii t ++ decimal n

abbrev pub refused_line : ℕ → ℕ → List ℕ
refused_line n r = field "job " n ++ field ": refused " r ++ ascii "\n"

abbrev pub route_line : ℕ → ℕ → ℕ → ℕ → ℕ → List ℕ
route_line n cost routes points kept =
    field "job " n ++ field ": cost " cost ++ field " routes " routes ++ field " points " points ++ field " kept " kept
    ++ ascii "\n"

unfoldable pub fields : List ℕ → List ℕ
fields [] = []
fields (v ∷ vs) = field " " v ++ fields vs

abbrev pub at_line : List ℕ → List ℕ
at_line vs = ascii "at" ++ fields vs ++ ascii "\n"

abbrev pub bad_line : ℕ → List ℕ
bad_line k = field "bad record at " k ++ ascii "\n"

abbrev pub kept_of : ℕ → List ℕ → List ℕ → List ℕ
kept_of k ps vs = tabulate k (λ i. get_or vs (get_or ps i 0) 0)
