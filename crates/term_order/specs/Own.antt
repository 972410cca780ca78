-- What of two terms is compared before their parts, by the looks at their words.
use Rattle.std.specs.Prelude.{◌≡◌, ℕ, ◌+◌, ◌-◌, ◌*◌, ◌/◌, ◌%◌, ◌^◌, ◌<◌, Bool, true, false, List, [], length, slice_index, ℤ, pos, negsuc}
use Rattle.std.specs.Ordering.{int_cmp, nat_cmp, ordering_then}
use Rattle.std.specs.declared.cmp.Ordering.{Ordering}
use Rattle.plain_term.specs.Order.{bytes_order, name_of}
use Rattle.term_words.specs.Object.{byte_of}
use Rattle.term_read.specs.Data.{BytesFrom}
use Rattle.term_read.specs.Look.{HasBytes}
use Rattle.term_read.specs.declared.looks.Bytes.{Bytes}
use Rattle.term_read.specs.declared.looks.Look.{Look}
use Rattle.term_read.specs.declared.looks.Look.TheVariants as look

-- The kinds, from the least.
abbrev pub look_rank : Look → ℕ
look_rank (look.Small i) = 0
look_rank (look.Big digits) = 0
look_rank (look.Atom k) = 1
look_rank (look.Ref number k) = 2
look_rank (look.Fun parts) = 3
look_rank (look.Pid n) = 4
look_rank (look.Tuple row) = 5
look_rank (look.Map rows) = 6
look_rank look.Nil = 7
look_rank (look.Cons place) = 8
look_rank (look.Heap bytes) = 9
look_rank (look.Holder bytes) = 9
look_rank (look.Part part) = 9

-- The integer of this sign and magnitude.
abbrev pub signed : (negative : Bool) (magnitude : ℕ) → ℤ
signed false n = pos n
signed true n = negsuc (n - 1)

-- The value of an integer.
abbrev pub look_int : Look → ℤ
look_int (look.Small i) = i
look_int (look.Big digits) = signed digits.negative (digits.low + digits.high * 2 ^ 64)
look_int _ = pos 0

-- The bytes of the name of an atom or of a fun.
abbrev pub look_name : (names : List (List ℕ)) → Look → List ℕ
look_name names (look.Atom k) = name_of names k
look_name names (look.Fun parts) = name_of names parts.name
look_name names _ = []

-- The number of a process, the arity of a fun, or a size.
abbrev pub look_first : Look → ℕ
look_first (look.Ref number k) = number
look_first (look.Pid n) = n
look_first (look.Fun parts) = parts.arity
look_first (look.Tuple row) = row.len
look_first (look.Map rows) = rows.len
look_first _ = 0

-- The number of a reference in its process, or of a fun's creator.
abbrev pub look_second : Look → ℕ
look_second (look.Ref number k) = k
look_second (look.Fun parts) = parts.creator
look_second _ = 0

-- The number of places of a fun's environment.
abbrev pub look_third : Look → ℕ
look_third (look.Fun parts) = parts.env.len
look_third _ = 0

-- Where the bytes of a binary lie.
abbrev pub look_data : Look → Bytes
look_data (look.Heap bytes) = bytes
look_data (look.Holder bytes) = bytes
look_data (look.Part part) = part.bytes
look_data _ = record { first = 0; start = 0; len = 0 }

-- Byte i of those that lie there.
abbrev pub byte_in : List ℕ → Bytes → ℕ → ℕ
byte_in mem b i = byte_of (slice_index mem (b.first + (b.start + i) / 8)) ((b.start + i) % 8)

-- The bytes that lie there.
pub record IsBytes (mem : List ℕ) (b : Bytes) (xs : List ℕ) : Type 0 where
  pub from : BytesFrom mem b.first b.start xs
  pub count : b.len ≡ length xs

-- All that is compared can be read: a value of 128 bits with its sign, a name among the names, bytes of the memory.
abbrev pub IsReadable : List ℕ → (names : List (List ℕ)) → Look → Type 0
IsReadable mem names (look.Big digits) = (0 < digits.low + digits.high * 2 ^ 64) × (digits.low + digits.high * 2 ^ 64 < 2 ^ 127)
IsReadable mem names (look.Atom k) = k < length names
IsReadable mem names (look.Fun parts) = parts.name < length names
IsReadable mem names (look.Heap bytes) = HasBytes mem bytes
IsReadable mem names (look.Holder bytes) = HasBytes mem bytes
IsReadable mem names (look.Part part) = HasBytes mem part.bytes
IsReadable mem names _ = Unit {0}

-- By kinds, then values of integers, names, numbers, and bytes.
abbrev pub looks_order : (names : List (List ℕ)) (l m : Look) (xs ys : List ℕ) → Ordering
looks_order names l m xs ys = ordering_then (nat_cmp (look_rank l) (look_rank m)) (ordering_then (int_cmp (look_int l) (look_int m))
    (ordering_then (bytes_order (look_name names l) (look_name names m)) (ordering_then (ordering_then (nat_cmp (look_first l) (look_first m))
    (ordering_then (nat_cmp (look_second l) (look_second m)) (nat_cmp (look_third l) (look_third m)))) (bytes_order xs ys))))
