-- The table of the forms of terms in brackets that are built: what opens and what closes each.
use Rattle.std.specs.Prelude.{ℕ, Bool, true, false, List, [], ◌∷◌, codes}
use Rattle.script_parse.specs.declared.forms.Form.{Form}
use Rattle.script_parse.specs.declared.forms.Form.TheVariants as form

-- The forms.
abbrev pub all_forms : List Form
all_forms = form.List ∷ form.Tuple ∷ form.Map ∷ form.Binary ∷ []

-- What opens a form.
abbrev pub opening : Form → List ℕ
opening form.List = codes "["
opening form.Tuple = codes "{"
opening form.Map = codes "#{"
opening form.Binary = codes "<<"

-- What closes it.
abbrev pub closing : Form → List ℕ
closing form.List = codes "]"
closing form.Tuple = codes "}"
closing form.Map = codes "}"
closing form.Binary = codes ">>"

-- Whether a last tail may stand before its end, after a bar.
abbrev pub has_tail : Form → Bool
has_tail form.List = true
has_tail form.Tuple = false
has_tail form.Map = false
has_tail form.Binary = false
