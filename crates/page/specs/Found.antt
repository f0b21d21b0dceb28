-- What a page is tested for.
-- Assumes nothing.
use Rattle.std.specs.Prelude.{ℕ, cond}
use Rattle.page_layout.specs.declared.Page.{Page}
use Rattle.page_layout.specs.Page.{sound}

-- 28 unless the page is sound
abbrev pub page_fault : Page → (room : ℕ) → ℕ
page_fault p room = cond (sound p room) 0 28
