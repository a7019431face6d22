-- what the rows at the cursors call for
pub mod Here
-- the text that a row's definition number names
pub mod Named
-- the steps of the pass
pub mod Steps
pub mod Texts
pub mod Paragraphs
pub mod Pages
