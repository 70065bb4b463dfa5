-- The widths of device values.
use Rattle.std.specs.Prelude.{◌≡◌, ℕ, ◌⊎◌}

abbrev pub Wide : ℕ → Type 0
Wide w = (w ≡ 2) ⊎ ((w ≡ 4) ⊎ (w ≡ 8))
