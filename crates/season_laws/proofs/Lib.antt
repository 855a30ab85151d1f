pub mod PiecesLaws
