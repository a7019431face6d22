-- The parts of a reference are those of the link or the image; of an inline one the check finds it.
use mathlib.Core.Path.{◌∙◌}
use Rattle.link.specs.Reading.{sort_by}
use Rattle.link.proofs.PairRows.{full_kind, collapsed_kind, shortcut_kind, pair_row_lem, defined_by, names_as}
use Rattle.link.proofs.pair_row.Goals as goal

pub returns-in-Full : goal.returns-in-Full
returns-in-Full c =
    let a = c.args in
    c.full_row.ensures
    ∙ full_kind _ _ _ _ (sort_by a.image) _ a.t.length
    ∙ pair_row_lem a.start a.image a.opening a.closing a.definitions.now a.count a.t _ c.in-Full.is c.requires.sized c.new-whole.ensures c.text_from.ensures c.new-text.ensures
    (defined_by a.start a.image a.opening a.closing a.definitions.now a.count (names_as a.count a.definitions.now c.in-Full.is c.requires.names).0 c.definition_at.ensures)

pub returns-in-Collapsed : goal.returns-in-Collapsed
returns-in-Collapsed c =
    let a = c.args in
    c.collapsed_row.ensures
    ∙ collapsed_kind _ _ _ _ (sort_by a.image) _
    ∙ pair_row_lem a.start a.image a.opening a.closing a.definitions.now a.count a.t _ c.in-Collapsed.is c.requires.sized c.new-whole.ensures c.text_from.ensures c.new-text.ensures
    (defined_by a.start a.image a.opening a.closing a.definitions.now a.count (names_as a.count a.definitions.now c.in-Collapsed.is c.requires.names).0 c.definition_at-in-Collapsed.ensures)

pub returns-in-Shortcut : goal.returns-in-Shortcut
returns-in-Shortcut c =
    let a = c.args in
    c.shortcut_row.ensures
    ∙ shortcut_kind _ _ _ _ (sort_by a.image) _
    ∙ pair_row_lem a.start a.image a.opening a.closing a.definitions.now a.count a.t _ c.in-Shortcut.is c.requires.sized c.new-whole.ensures c.text_from.ensures c.new-text.ensures
    (defined_by a.start a.image a.opening a.closing a.definitions.now a.count (names_as a.count a.definitions.now c.in-Shortcut.is c.requires.names).0 c.definition_at-in-Shortcut.ensures)
