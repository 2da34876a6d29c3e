-- Numbers in Prometheus' text format, version 0.0.4: a family has a line of help, a line of its type and a line for each sample.
use Rattle.std.specs.Prelude.{ℕ, ◌==◌, if◌then◌else◌, List, [], ◌∷◌, ◌++◌, codes, flat_map}
use Rattle.std.specs.Fmt.{decimal}
use Rattle.metrics.specs.declared.exposition.Kind.{Kind}
use Rattle.metrics.specs.declared.exposition.Kind.TheVariants.{Counter, Gauge}
use Rattle.metrics.specs.declared.exposition.Label.{Label}

abbrev pub type_of : Kind → List ℕ
type_of Counter = codes "counter"
type_of Gauge = codes "gauge"

-- the lines that begin a family
abbrev pub family_text : List ℕ → List ℕ → Kind → List ℕ
family_text name help kind =
    codes "# HELP " ++ name ++ codes " " ++ help ++ codes "\n# TYPE " ++ name ++ codes " " ++ type_of kind ++ codes "\n"

-- in a label's value a backslash, a quotation mark and a line feed are written as two characters
abbrev pub escaped_byte : ℕ → List ℕ
escaped_byte byte = if byte == 92 then codes "\\\\" else (if byte == 34 then codes "\\\"" else (if byte == 10 then codes "\\n" else byte ∷ []))

abbrev pub escaped : List ℕ → List ℕ
escaped value = flat_map escaped_byte value

abbrev pub label_text : Label → List ℕ
label_text label = label.name.now ++ codes "=\"" ++ escaped label.value.now ++ codes "\""

abbrev pub one_more_label : Label → List ℕ
one_more_label label = codes "," ++ label_text label

-- labels stand in braces, with commas between them; without any there are no braces
abbrev pub labels_text : List Label → List ℕ
labels_text [] = []
labels_text (label ∷ labels) = codes "{" ++ label_text label ++ flat_map one_more_label labels ++ codes "}"

-- the line of a sample
abbrev pub sample_text : List ℕ → List Label → ℕ → List ℕ
sample_text name labels number = name ++ labels_text labels ++ codes " " ++ decimal number ++ codes "\n"
