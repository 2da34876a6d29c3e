-- In which order properties are written (section 2.2.2, profile).
use Rattle.std.specs.Prelude.{◌≡◌, ℕ, ◌≤◌, List, [], ◌∷◌}
use Rattle.std.specs.List.{flat_map}
use Rattle.mqtt_fields.specs.declared.property.Property.{Property}
use Rattle.mqtt_fields.specs.Properties.{identifier_of, name_of}
use Rattle.mqtt_fields.specs.Sections.{property_bytes}

-- no property's identifier is below that of one before it, nor below the least
abbrev pub Rises : ℕ → List Property → Type 0
Rises least [] = Unit {0}
Rises least (property ∷ others) = (least ≤ identifier_of (name_of property)) × Rises (identifier_of (name_of property)) others

-- the bytes are properties, none with an identifier below that of one before it
abbrev pub AreRising : List ℕ → Type 0
AreRising bytes = (list : List Property) × (bytes ≡ flat_map property_bytes list) × Rises 0 list
