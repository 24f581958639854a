-- What a received frame shows of its header.
use Rattle.std.specs.Prelude.{◌≡◌}
use Rattle.frame.specs.declared.Header.{Header}
use Rattle.link_end.specs.declared.News.{News}
use Rattle.link_end.specs.declared.News.TheVariants.{Nothing, Frame, Events}

-- something is shown, and its header is this one
abbrev pub Heads : Header → News → Type 0
Heads h Nothing = ⊥
Heads h (Frame g) = g ≡ h
Heads h (Events g n) = g ≡ h
