-- The text of a word without its parts, by the look at it.
use Rattle.std.specs.Prelude.{ℕ, zero, suc, Bool, true, false, List, [], ◌++◌, codes, decimal}
use Rattle.std.specs.Fmt.{signed_decimal}
use Rattle.plain_term.specs.Order.{name_of}
use Rattle.plain_term.specs.Text.{binary_text, placed}
use Rattle.term_order.specs.Own.{look_int}
use Rattle.term_read.specs.declared.looks.Look.{Look}
use Rattle.term_read.specs.declared.looks.Look.TheVariants as look

-- What a list begins with, or goes on with after a part.
abbrev pub list_begun : (tail : Bool) → List ℕ
list_begun false = codes "["
list_begun true = codes ","

-- A list without parts, or the end of one with parts.
abbrev pub list_ended : (tail : Bool) → List ℕ
list_ended false = codes "[]"
list_ended true = codes "]"

-- What a tuple begins with; as the last tail of a list it stands after a bar.
abbrev pub tuple_begun : (tail : Bool) → List ℕ
tuple_begun false = codes "{"
tuple_begun true = codes "|{"

-- What a map begins with, also after a bar.
abbrev pub map_begun : (tail : Bool) → List ℕ
map_begun false = codes "#{"
map_begun true = codes "|#{"

-- The whole text of a term without parts that are written; `xs` are the bytes of a binary.
abbrev pub leaf_text : (names : List (List ℕ)) (xs : List ℕ) → Look → List ℕ
leaf_text names xs (look.Small i) = signed_decimal i
leaf_text names xs (look.Big digits) = signed_decimal (look_int (look.Big digits))
leaf_text names xs (look.Atom k) = name_of names k
leaf_text names xs (look.Pid n) = codes "<0." ++ (decimal n ++ codes ".0>")
leaf_text names xs (look.Ref n k) = codes "#Ref<0." ++ (decimal n ++ (codes "." ++ (decimal k ++ codes ">")))
leaf_text names xs (look.Fun parts) = codes "#Fun<" ++ (name_of names parts.name ++ (codes "/" ++ (decimal parts.arity ++ codes ">")))
leaf_text names xs _ = binary_text xs

-- What is written of a word's tree before its parts, or all of its text.
abbrev pub own_text : (names : List (List ℕ)) (tail : Bool) (xs : List ℕ) → Look → List ℕ
own_text names tail xs (look.Cons place) = list_begun tail
own_text names tail xs look.Nil = list_ended tail
own_text names tail xs (look.Tuple row) = tuple_begun tail
own_text names tail xs (look.Map rows) = map_begun tail
own_text names tail xs l = placed tail (leaf_text names xs l)

-- What stands before byte i of a binary, from 0.
abbrev pub comma_before : ℕ → List ℕ
comma_before zero = []
comma_before (suc i) = codes ","
